use Rattle.std.proofs.Common.{refl, sym}
use Rattle.syn_lower_spec.specs.declared.label.LitKind.TheVariants as kind
use Rattle.syn_lower_spec.specs.Kind.{of_kind}
use Rattle.syn_lower_spec.specs.Part as part
use Rattle.syn_lower_spec.proofs.Whole.{parts_read_back, parts_exact}
use Rattle.syn_lower_leaves.specs.View as view
use Rattle.syn_lower_leaves.proofs.Backs.{stands, is_read, blocks_print, string_fits, byte_string_fits, c_string_fits, byte_fits, char_fits, truth_fits, outer_back, inner_back}
use Rattle.syn_lower_spec.proofs.Appends.{lit_append}
use Rattle.syn_lower_leaves.proofs.laws.leaves_are_read_back.Goals as goal

pub returns : goal.returns
returns c =
    let back = parts_read_back in
    let exact = parts_exact in
    record {
      lifetimes = λ x rest f s. back.lifetime_names (view.lifetime_of x) rest;
      blocks = λ x rest f s. stands part.block _ _ _ rest (blocks_print x.stmts rest) (back.blocks x.stmts rest);
      outer_attributes = λ xs rest f s. is_read part.outer_attributes exact.outer _ _ _ rest refl (outer_back xs rest f s);
      inner_attributes = λ xs rest f s. is_read part.inner_attributes exact.inner _ _ _ rest refl (inner_back xs rest f s);
      literals = λ x rest f s. stands part.lit _ _ _ rest (sym (lit_append (view.lit_of x) rest)) (back.literals (view.lit_of x) rest f);
      strings = λ x rest f s. stands (of_kind kind.Str) _ _ _ rest (sym (lit_append (view.lit_str_of x) rest)) (back.literals_of_kind kind.Str _ rest (string_fits x.token f));
      byte_strings = λ x rest f s. stands (of_kind kind.ByteStr) _ _ _ rest (sym (lit_append (record { kind = kind.ByteStr; text = x.token }) rest)) (back.literals_of_kind kind.ByteStr _ rest (byte_string_fits x.token f));
      c_strings = λ x rest f s. stands (of_kind kind.CStr) _ _ _ rest (sym (lit_append (record { kind = kind.CStr; text = x.token }) rest)) (back.literals_of_kind kind.CStr _ rest (c_string_fits x.token f));
      bytes = λ x rest f s. stands (of_kind kind.Byte) _ _ _ rest (sym (lit_append (record { kind = kind.Byte; text = x.token }) rest)) (back.literals_of_kind kind.Byte _ rest (byte_fits x.token f));
      chars = λ x rest f s. stands (of_kind kind.Char) _ _ _ rest (sym (lit_append (record { kind = kind.Char; text = x.token }) rest)) (back.literals_of_kind kind.Char _ rest (char_fits x.token f));
      truths = λ x rest f s. stands (of_kind kind.Bool) _ _ _ rest (sym (lit_append (record { kind = kind.Bool; text = x.word }) rest)) (back.literals_of_kind kind.Bool _ rest (truth_fits x.word f));
      integers = λ x rest f s. stands (of_kind kind.Int) _ _ _ rest (sym (lit_append (view.lit_int_of x) rest)) (back.literals_of_kind kind.Int _ rest f);
      floats = λ x rest f s. stands (of_kind kind.Float) _ _ _ rest (sym (lit_append (view.lit_float_of x) rest)) (back.literals_of_kind kind.Float _ rest f);
    }
