-- The picture of a place, from its pieces.
use Rattle.std.proofs.Common.{◌≡◌, ℕ, List, ◌++◌, ap, ◌∙◌, codes}
use Rattle.syn_tokens.specs.declared.tree.Span.{Span}
use Rattle.syn_report.specs.Place.{behind, from_line, line_column}
use Rattle.syn_report.specs.Report.{added, margin, heading, quoted, picture}
use Rattle.syn_report.specs.declared.place.LineColumn.{LineColumn}

pub pictured : (lines : ℕ) (cs : List ℕ) (s : Span) (title message : List ℕ) (place : LineColumn) (line_text rest side : List ℕ) (line : ℕ)
    → place ≡ line_column s.lo cs → line_text ≡ from_line s.lo cs → rest ≡ behind s.lo cs → line ≡ added place.line lines → side ≡ margin line
    → heading side (record { line = line; column = place.column }) title message ++ (codes "\n" ++ quoted side line place.column line_text rest s) ≡ picture lines cs s title message
pictured lines cs s title message place line_text rest side line p l r n m =
    let at_lo : LineColumn = line_column s.lo cs in
    let number : ℕ = added at_lo.line lines in
    let all : List ℕ → ℕ → ℕ → List ℕ → List ℕ → List ℕ = λ side line column line_text rest.
    heading side (record { line = line; column = column }) title message ++ (codes "\n" ++ quoted side line column line_text rest s) in
    ap (λ x. all x line place.column line_text rest) m
    ∙ ap (λ x. all (margin x) x place.column line_text rest) (n ∙ ap (λ (q : LineColumn). added q.line lines) p)
    ∙ ap (λ (q : LineColumn). all (margin number) number q.column line_text rest) p
    ∙ ap (λ x. all (margin number) number at_lo.column x rest) l
    ∙ ap (λ x. all (margin number) number at_lo.column (from_line s.lo cs) x) r
