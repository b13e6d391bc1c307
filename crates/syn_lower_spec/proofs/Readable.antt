-- The forms that readers follow: what each reads is there, takes a token and leaves a tail, and what stands it reads.
use Rattle.std.proofs.Common.{◌≡◌, Bool, true, false, cond, List, Some, None, refl, subst, arith}
use Rattle.syn_lexer.specs.declared.front.Delimiter.TheVariants as del
use Rattle.syn_tokens.specs.Tok.{Tok}
use Rattle.syn_lower_spec.specs.declared.label.LitKind.{LitKind}
use Rattle.syn_lower_spec.specs.declared.label.PathStyle.{PathStyle}
use Rattle.syn_lower_spec.specs.declared.label.PathStyle.TheVariants as style
use Rattle.syn_lower_spec.specs.Form.{Form, Outcome}
use Rattle.syn_lower_spec.specs.Tree.{TypeTree}
use Rattle.syn_lower_spec.specs.Kind.{only, of_kind, type_of_kind}
use Rattle.syn_lower_spec.specs.Mark.{gt, question, mutable}
use Rattle.syn_lower_spec.specs.Part.{string_at, lifetimes_at, to_arg, from_arg, to_trait, from_trait, lifetime, lit, block, lifetimes, abi, mutability, output, generic, angle, angle_bracketed, parenthesized, assoc, segment, path, qpath, trait_bound, bound, fn_arg, type, macro}
use Rattle.syn_lower_spec.proofs.Forms.{Alike, weaker, mark_at_alike, maybe_alike, flag_at_alike, closed_by_alike, listed_alike, pure_alike, only_true, only_false}
use Rattle.syn_lower_spec.proofs.LitKinds.{only_some, of_kind_alike, of_kind_leaves, of_kind_takes}
use Rattle.syn_lower_spec.proofs.Marks.{lt_present, gt_present, comma_present, colon2_present, lone_colon_present, eq_present, question_present, extern_present, mutable_present, constant_present}
use Rattle.syn_lower_spec.proofs.Parts.{abi_alike, mutability_alike, assoc_alike, trait_bound_alike, lifetime_alike, lit_alike, block_alike, lifetimes_alike, string_alike, arg_name_alike, types_alike, type_alike, whole_path_alike, whole_segment_alike, generic_alike, angle_bracketed_alike, parenthesized_alike, bound_alike, fn_arg_alike, output_alike, qpath_alike, macro_alike}
use Rattle.syn_lower_spec.proofs.Tails.{Leaves, both_leaves, shown_leaves, maybe_leaves, flag_leaves, case_leaves}
use Rattle.syn_lower_spec.proofs.TailParts.{leaving, lifetime_leaves, signed_leaves, block_leaves, lifetimes_leaves, type_leaves, path_leaves, segment_leaves, generic_leaves, angle_bracketed_leaves, parenthesized_leaves, bound_leaves, output_leaves, qpath_leaves, macro_leaves}
use Rattle.syn_lower_spec.proofs.Takes.{Takes, mark_takes, when_takes, first_takes, second_takes, shown_takes, inside_takes, lifetime_takes, signed_takes, block_takes, lifetimes_takes, name_takes, type_takes, path_takes, segment_takes, generic_takes, bound_takes, qpath_takes, macro_takes}
use Rattle.syn_lower_spec.proofs.Weights.{some_is}
use Rattle.syn_lower_spec.specs.Laws.{IsReadable}

readable : {A : Type 0} {f : Form A} → Alike 0 f f → Leaves f → Takes f → IsReadable 1 f
readable a t k = record {
  tail = λ l n x h. t.leaves l x n h;
  moves = λ l n x h. omega (arith, k.takes l x n h);
  stands = λ l n x h. a.sound l x n h;
  found = λ l n x h. a.complete l x n h;
}

-- a form that may read nothing
readable_or_none : {A : Type 0} {f : Form A} → Alike 0 f f → Leaves f → IsReadable 0 f
readable_or_none a t = record {
  tail = λ l n x h. t.leaves l x n h;
  moves = λ l n x h. omega (arith, a.falls l x n h);
  stands = λ l n x h. a.sound l x n h;
  found = λ l n x h. a.complete l x n h;
}

-- ---- the parts that hold no others

pub lifetime_readable : IsReadable 1 lifetime
lifetime_readable = readable lifetime_alike lifetime_leaves lifetime_takes

pub lit_readable : IsReadable 1 lit
lit_readable = readable lit_alike signed_leaves signed_takes

pub lit_kind_readable : (k : LitKind) → IsReadable 1 (of_kind k)
lit_kind_readable k = readable (of_kind_alike k) (of_kind_leaves k) (of_kind_takes k)

pub block_readable : IsReadable 1 block
block_readable = readable block_alike block_leaves block_takes

pub lifetimes_readable : IsReadable 1 lifetimes
lifetimes_readable = readable lifetimes_alike lifetimes_leaves lifetimes_takes

abi_takes : Takes abi
abi_takes = mark_takes {k = 0} extern_present (maybe_alike string_at string_alike)

pub abi_readable : IsReadable 1 abi
abi_readable = readable abi_alike (search leaving depth 12) abi_takes

mutability_takes : Takes mutability
mutability_takes = when_takes mutable.at (mark_takes {k = 0} mutable_present (pure_alike only_true)) (mark_takes {k = 0} constant_present (pure_alike only_false))

pub mutability_readable : IsReadable 1 mutability
mutability_readable = readable mutability_alike (search (case_leaves, leaving) depth 12) mutability_takes

-- ---- the parts over types

pub type_readable : (several : Bool) → IsReadable 1 (type several)
type_readable b = readable (type_alike 0 b) (type_leaves b) (type_takes b)

pub path_readable : (s : PathStyle) → IsReadable 1 (path type s)
path_readable s = readable (whole_path_alike s) (path_leaves type_leaves s) (path_takes s)

pub segment_readable : (s : PathStyle) → IsReadable 1 (segment type s)
segment_readable s = readable (whole_segment_alike s) (segment_leaves type_leaves s) (segment_takes s)

pub qpath_readable : (s : PathStyle) → IsReadable 1 (qpath type s)
qpath_readable s = readable (weaker (qpath_alike types_alike s)) (qpath_leaves type_leaves s) (qpath_takes s)

pub generic_readable : IsReadable 1 (generic type)
generic_readable = readable (generic_alike types_alike) (generic_leaves type_leaves) generic_takes

pub bound_readable : IsReadable 1 (bound type)
bound_readable = readable (weaker (bound_alike types_alike)) (bound_leaves type_leaves) bound_takes

pub macro_readable : IsReadable 1 macro
macro_readable = readable macro_alike macro_leaves macro_takes

pub output_readable : (several : Bool) → IsReadable 0 (output type several)
output_readable b = readable_or_none (weaker (output_alike types_alike b)) (output_leaves type_leaves b)

angle_takes : Takes (angle_bracketed type)
unfolding angle_bracketed angle
angle_takes = shown_takes _ _ (second_takes {k = 0} (flag_at_alike colon2_present)
    (mark_takes {k = 0} lt_present (closed_by_alike gt_present (listed_alike gt.at comma_present (generic_alike types_alike)))))

pub angle_readable : IsReadable 1 (angle_bracketed type)
angle_readable = readable (weaker (angle_bracketed_alike types_alike)) (angle_bracketed_leaves type_leaves) angle_takes

round_takes : Takes (parenthesized type)
unfolding parenthesized
round_takes = shown_takes _ _ (first_takes {k = 0} (inside_takes del.Parenthesis _) (λ x. weaker (output_alike {k = 0} types_alike false)))

pub round_readable : IsReadable 1 (parenthesized type)
round_readable = readable (weaker (parenthesized_alike types_alike)) (parenthesized_leaves type_leaves) round_takes

assoc_takes : Takes (assoc type)
assoc_takes = first_takes {k = 0} name_takes (λ w. mark_at_alike eq_present (type_alike 0 true))

pub assoc_readable : IsReadable 1 (assoc type)
assoc_readable = readable (assoc_alike types_alike) (search (type_leaves, leaving) depth 12) assoc_takes

fn_arg_leaves : Leaves (fn_arg type)
unfolding fn_arg
fn_arg_leaves = search (type_leaves, leaving) depth 12

fn_arg_takes : Takes (fn_arg type)
unfolding fn_arg
fn_arg_takes = shown_takes to_arg from_arg (second_takes {k = 0} (maybe_alike _ (closed_by_alike lone_colon_present arg_name_alike)) (type_takes true))

pub fn_arg_readable : IsReadable 1 (fn_arg type)
fn_arg_readable = readable (fn_arg_alike types_alike) fn_arg_leaves fn_arg_takes

trait_leaves : Leaves (trait_bound type)
trait_leaves = shown_leaves to_trait from_trait (both_leaves (flag_leaves question) (both_leaves (maybe_leaves lifetimes_at lifetimes_leaves) (path_leaves type_leaves style.Type)))

trait_takes : Takes (trait_bound type)
trait_takes = shown_takes to_trait from_trait (second_takes {k = 0} (flag_at_alike question_present) (second_takes {k = 0} (maybe_alike _ lifetimes_alike) (path_takes style.Type)))

pub trait_readable : IsReadable 1 (trait_bound type)
trait_readable = readable (weaker (trait_bound_alike types_alike)) trait_leaves trait_takes

-- ---- types of one kind

pub kind_readable : (is : TypeTree → Bool) → IsReadable 1 (type_of_kind is)
unfolding type_of_kind
kind_readable is = record {
  tail = λ l n x h. r.tail l n x (only_some is ((type true).reads l) (x, n) h);
  moves = λ l n x h. r.moves l n x (only_some is ((type true).reads l) (x, n) h);
  stands = λ l n x h. rw (passes is ((type true).reads l) (x, n) h) (r.stands l n x (only_some is ((type true).reads l) (x, n) h));
  found = λ l n x. found (is x) l n x refl;
}
  where
    r : IsReadable 1 (type true)
    r = type_readable true

    passes : (is : TypeTree → Bool) (o : Outcome TypeTree) (p : TypeTree × List Tok) → only is o ≡ Some p → is p.0 ≡ true
    passes is None p h = absurd cc
    passes is (Some q) p h = by_bool (is q.0) refl h
      where
        by_bool : (b : Bool) → is q.0 ≡ b → cond {A = Outcome TypeTree} b (Some q) None ≡ Some p → is p.0 ≡ true
        by_bool true e h = subst (λ z. is z.0 ≡ true) (some_is h) e
        by_bool false e h = absurd cc

    found : (b : Bool) (l n : List Tok) (x : TypeTree) → is x ≡ b → cond b ((type true).behind x l) None ≡ Some n → only is ((type true).reads l) ≡ Some (x, n)
    found true l n x e h = rw (r.found l n x h) (rw e refl)
    found false l n x e h = absurd cc

pub ruleset readables = (lifetime_readable, lit_readable, lit_kind_readable, block_readable, lifetimes_readable, abi_readable, mutability_readable, type_readable, path_readable, segment_readable, qpath_readable, generic_readable, bound_readable, macro_readable, output_readable, angle_readable, round_readable, assoc_readable, fn_arg_readable, trait_readable, kind_readable)
