-- What members, indices and labels leave, and that they are read exactly where they are.
use Rattle.std.proofs.Common.{◌≡◌, ◌≤◌, ℕ, true, ◌==◌, List, ◌∷◌, ◌++◌, Option, Some, None, ap, sym, ◌∙◌, refl, arith}
use Rattle.std.proofs.lemmas.Bool.Decides.{nat_tests}
use Rattle.syn_tokens.specs.Tok.{Tok, literal, weight}
use Rattle.syn_tokens.specs.Input.{Input, IsTail, IsAfter, first_note}
use Rattle.syn_tokens.specs.declared.tree.Span.{Span}
use Rattle.syn_lower_spec.specs.Text.{Text}
use Rattle.syn_lower_spec.specs.Pat.{MemberTree, member}
use Rattle.syn_lower_spec.specs.Pat as p
use Rattle.syn_lower_spec.specs.Laws.{IsReadable}
use Rattle.syn_lower_spec.proofs.Forms.{Alike, Compares, Finds, leaf_alike, closed_by_alike, mark_at_alike, pure_alike}
use Rattle.syn_lower_spec.proofs.Marks.{colon_present}
use Rattle.syn_lower_spec.proofs.Parts.{falls_by, one_less, lifetime_alike}
use Rattle.syn_lower_spec.proofs.Pats.{member_alike}
use Rattle.syn_lower_spec.proofs.Tails.{Leaves, closed_by_leaves}
use Rattle.syn_lower_spec.proofs.TailParts.{lifetime_leaves}
use Rattle.syn_lower_spec.proofs.Takes.{Takes, first_takes, shown_takes, lifetime_takes}
use Rattle.syn_lower_spec.proofs.Weights.{some_is}
use Rattle.syn_lower_spec.specs.Mark.{colon}
use Rattle.syn_expr_tokens.specs.View.{labeled}
use Rattle.syn_expr_tokens.specs.Refusal.{index, find_index, found_if}

-- ---- indices

compares_numbers : Compares (λ (n m : ℕ). n == m)
compares_numbers = record { itself = λ n. grind (arith, nat_tests); equal = λ n m h. grind (arith, nat_tests) }

found_some : (o : Option ℕ) (l : List Tok) (x : ℕ) (n : List Tok) → found_if o l ≡ Some (x, n) → l ≡ n
found_some (Some k) l x n h = ap (λ z. z.1) (some_is h)
found_some None l x n h = absurd cc

finds_index : Finds find_index
finds_index = record { falls = falls }
  where
    falls : (l : List Tok) (x : ℕ) (n : List Tok) → find_index l ≡ Some (x, n) → weight n ≤ weight l
    falls (literal w ∷ l) x n h = falls_by l n (literal w ∷ l) (found_some (p.index_of w) l x n h) (one_less (literal w) l)
    falls _ x n h = absurd cc

index_alike : Alike 0 index index
unfolding index
index_alike = leaf_alike compares_numbers finds_index

pub index_stands : (l n : List Tok) (x : ℕ) → index.reads l ≡ Some (x, n) → index.behind x l ≡ Some n
index_stands l n x h = let a = index_alike in a.sound l x n h

pub index_found : (l n : List Tok) (x : ℕ) → index.behind x l ≡ Some n → index.reads l ≡ Some (x, n)
index_found l n x h = let a = index_alike in a.complete l x n h

pub ruleset index_reading = (index_stands, index_found)

-- ---- members

pub member_stands : (l n : List Tok) (x : MemberTree) → member.reads l ≡ Some (x, n) → member.behind x l ≡ Some n
member_stands l n x h = let a = member_alike {k = 0} in a.sound l x n h

pub member_found : (l n : List Tok) (x : MemberTree) → member.behind x l ≡ Some n → member.reads l ≡ Some (x, n)
member_found l n x h = let a = member_alike {k = 0} in a.complete l x n h

pub ruleset member_reading = (member_stands, member_found)

-- ---- labels

labeled_alike : Alike 0 labeled labeled
labeled_alike = closed_by_alike colon_present lifetime_alike

labeled_leaves : Leaves labeled
labeled_leaves = closed_by_leaves colon lifetime_leaves

labeled_takes : Takes labeled
labeled_takes =
    shown_takes _ (λ x. Some (x, tt)) (first_takes {k = 0} lifetime_takes (λ x. mark_at_alike colon_present (pure_alike {is = λ (u : Unit {0}). true} (record { itself = refl; only = λ y h. refl }))))

pub labeled_readable : IsReadable 1 labeled
labeled_readable = let a = labeled_alike in let t = labeled_leaves in let k = labeled_takes in record {
  tail = λ l n x h. t.leaves l x n h;
  moves = λ l n x h. omega (arith, k.takes l x n h);
  stands = λ l n x h. a.sound l x n h;
  found = λ l n x h. a.complete l x n h;
}

pub labeled_tail : (l n : List Tok) (x : Text) → labeled.reads l ≡ Some (x, n) → IsTail n l
labeled_tail l n x h = let t = labeled_leaves in t.leaves l x n h

-- ---- moving to where a fork is

first_kept : (o p : Option Span) (s : Span) → o ≡ Some s → first_note o p ≡ Some s
first_kept (Some r) None s h = h
first_kept (Some r) (Some q) s h = h
first_kept None p s h = absurd cc

pub advanced : (a f b : Input) → IsTail f.rest a.rest → b.rest ≡ f.rest → b.noted ≡ first_note a.noted f.noted → IsAfter a b
advanced a f b t e n = record {
  front = t.front;
  is = t.is ∙ ap (λ r. t.front ++ r) (sym e);
  noted = λ s h. n ∙ first_kept a.noted f.noted s h;
}

pub ruleset label_reading = (labeled_tail, advanced)
