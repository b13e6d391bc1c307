use Rattle.std.proofs.Common.{◌≡◌, ◌≢◌, ◌<◌, ◌++◌, ◌∷◌, ℕ, Option, Some, None, length, get_or, MatchOption, IfSome, Bor, ap, arith, length-append}
use Rattle.std.proofs.lemmas.Str.Pattern.{split_parts}
use Rattle.syn_lower_spec.specs.Text.{Text}
use Rattle.syn_expr_tokens.specs.Cut.{cut, last_part, Splits}
use Rattle.syn_expr_tokens.proofs.Cuts.{whole, splits}
use Rattle.syn_expr_tokens.proofs.number.split_part.Goals as goal

-- what `split_once` gives at a dot
abbrev Parts : Text → Option (Bor Text × Bor Text) → Type 0
Parts s r = MatchOption r ((i : ℕ) → i < length s → get_or s i 0 ≢ 46) (λ x. (s ≡ x.0.now ++ (46 ∷ x.1.now)) × ((i : ℕ) → i < length x.0.now → get_or x.0.now i 0 ≢ 46))

cut_known : (s : Text) (r : Option (Bor Text × Bor Text)) → Parts s r → MatchOption r (cut s ≡ last_part s) (λ p. Splits s p.0.now p.1.now)
cut_known s None h = whole s h
cut_known s (Some p) h = splits s p.0.now p.1.now h.0 h.1

less_known : (s : Text) (r : Option (Bor Text × Bor Text)) → Parts s r → IfSome r (λ p. length p.1.now < length s)
less_known s None h = tt
less_known s (Some p) h = omega (arith, ap length h.0, length-append p.0.now (46 ∷ p.1.now))

pub returns : goal.returns
returns c =
    let parts = split_parts 46 c.args.text.now c.split_once.result c.split_once.ensures.cases (omega arith) in
    record { parts = cut_known c.args.text.now c.split_once.result parts; smaller = less_known c.args.text.now c.split_once.result parts }
