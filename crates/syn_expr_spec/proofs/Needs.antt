-- The forms that the reading of expressions follows.
use Rattle.std.proofs.Common.{ℕ, Bool, false, arith}
use Rattle.syn_lower_spec.specs.declared.label.PathStyle.TheVariants as style
use Rattle.syn_lower_spec.specs.Part.{outer_attributes, inner_attributes, qpath, macro_end, type, QPathTree}
use Rattle.syn_expr_spec.specs.Path.{expr_path}
use Rattle.syn_expr_spec.specs.Head.{leaf_form, prefix_form, closure_head, dotted, label}
use Rattle.syn_expr_spec.specs.Slot.{Slot, piece_form, for_head}
use Rattle.syn_lower_spec.specs.Form.{Form}
use Rattle.syn_lower_spec.specs.Laws.{IsReadable}
use Rattle.syn_expr_spec.proofs.Heads.{heads_readable}
use Rattle.syn_expr_spec.proofs.Chains.{Reads}

pub record Heads : Type 0 where
  pub leaves : Reads leaf_form
  pub prefixes : Reads prefix_form
  pub outers : Reads outer_attributes
  pub inners : Reads inner_attributes
  pub qpaths : Reads (qpath type style.Expr)
  pub paths : (braces : Bool) → Reads (expr_path braces)
  pub macro_ends : (q : QPathTree) → Reads (macro_end q)
  pub types : Reads (type false)
  pub closures : Reads closure_head
  pub dots : Reads dotted
  pub labels : Reads label
  pub fors : Reads for_head
  pub pieces : (s : Slot) → Reads (piece_form s)

reads : {A : Type 0} {k : ℕ} {f : Form A} → IsReadable k f → Reads f
reads r = record {
  sound = λ l x n h. r.stands l n x h;
  found = λ l x n h. r.found l n x h;
  falls = λ l x n h. omega (arith, r.moves l n x (r.found l n x h));
}

pub heads : Heads
heads = let h = heads_readable in record {
  leaves = reads h.leaves;
  prefixes = reads h.prefixes;
  outers = reads h.outer;
  inners = reads h.inner;
  qpaths = reads h.paths;
  paths = λ b. reads (h.expr_paths b);
  macro_ends = λ q. reads (h.macro_ends q);
  types = reads (h.types false);
  closures = reads h.closure_heads;
  dots = reads h.trailers;
  labels = reads h.labels;
  fors = reads h.for_heads;
  pieces = λ s. reads (h.pieces s);
}
