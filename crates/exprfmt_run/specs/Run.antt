-- What a run does.
use Rattle.std.specs.Prelude.{◌≡◌, ◌⊎◌, ℕ, Bool, true, false, List, [], ◌∷◌, ◌++◌, Option, codes, decimal, chars}
use Rattle.std.specs.Str.{IsUtf8}
use Rattle.std.specs.Io.KnownBytes.{Appends}
use Rattle.syn_tokens.specs.Tok.{Tok}
use Rattle.syn_tokens.specs.Text.{text}
use Rattle.syn_tokens.specs.declared.error.Error.{Error}
use Rattle.syn_tokens.specs.declared.error.ErrorKind.TheVariants.{OutOfMemory}
use Rattle.syn_tokens.specs.ErrorText.{kind_text}
use Rattle.syn_expr_spec.specs.Printed.{Position, printed_in}
use Rattle.syn_expr_spec.specs.Tree.{Tree, own_tokens, flatten, IsSameTree}
use Rattle.syn_text_spec.specs.Laws.{is_ordinary}
use Rattle.syn_expr.specs.Promises.{PrintedAs}
use Rattle.syn_expr.specs.Texts.{StandsFor, NothingStands}
use Rattle.syn_expr.specs.declared.print.Position as code
use Rattle.syn_expr.specs.declared.print.Position.TheVariants as named

-- the name of a position
abbrev pub word : code.Position → List ℕ
word named.Plain = codes "plain"
word named.Stmt = codes "stmt"
word named.Cond = codes "cond"
word named.Arm = codes "arm"

-- the word after it by which the parentheses that the expression has are taken away
abbrev pub bare_word : List ℕ
bare_word = codes "bare"

-- how a run ends: with printed tokens, a refusal, an input that is no UTF-8, or a read or a write that failed
pub data Outcome : Type 0 where
  printed : List Tok → Outcome
  refused : Error → Outcome
  not_utf8 : Outcome
  failed : Outcome

-- the line that is written for it
abbrev pub line : Outcome → List ℕ
line (printed ts) = text ts ++ 10 ∷ []
line (refused e) =
    codes "refused at " ++ decimal e.span.lo ++ codes ".." ++ decimal e.span.hi ++ codes ": " ++ kind_text e.kind ++ 10 ∷ []
line not_utf8 = codes "input is not UTF-8" ++ 10 ∷ []
line failed = codes "input or output failed" ++ 10 ∷ []

-- the outcome where memory runs out
abbrev pub out_of_memory : Outcome
out_of_memory = refused (record { span = record { lo = 0; hi = 0 }; kind = OutOfMemory })

-- what is written where the arguments are no words of the program
abbrev pub usage : List ℕ
usage = codes "usage: exprfmt plain|stmt|cond|arm [bare]" ++ 10 ∷ []

-- the tree that is printed of one: where `bare` was asked, the same without its parentheses
abbrev pub meant : Bool → Tree → Tree
meant false t = t
meant true t = flatten t

-- Some tree stands for the text, and these are the tokens that are promised of it, or of it without its parentheses, where
-- it is printed in the position.
abbrev pub IsPrinted : Position → Bool → List ℕ → List Tok → Type 0
IsPrinted s bare cs ts = (t : Tree) × StandsFor cs t × PrintedAs s (meant bare t) ts

-- If the tree of the input is ordinary, then a run on the text of these tokens prints the same line, for the same position, and
-- `bare` or not as before: the text is UTF-8 and is read as a tree that is the same as the printed one, and that tree is printed so.
abbrev pub IsPrintedAgain : Position → Bool → List ℕ → List Tok → Type 0
IsPrintedAgain s bare cs ts =
    (t : Tree) → StandsFor cs t → is_ordinary t ≡ true
    → IsUtf8 (text ts) × ((x : Tree) × StandsFor (chars (text ts)) x × IsSameTree (meant bare t) x × (line (printed (own_tokens (printed_in s (meant bare x)))) ≡ line (printed ts)))

-- the line of the printed expression
abbrev pub IsLine : Position → Bool → List ℕ → List ℕ → Type 0
IsLine s bare cs bytes = (ts : List Tok) × IsPrinted s bare cs ts × (bytes ≡ text ts ++ 10 ∷ [])

-- The outcome is that of the bytes, unless memory runs out: the expression that stands for them is printed, and they are
-- refused only where none does.
abbrev pub Follows : Position → Bool → List ℕ → Outcome → Type 0
Follows s bare bytes (printed ts) = IsUtf8 bytes × IsPrinted s bare (chars bytes) ts × IsPrintedAgain s bare (chars bytes) ts
Follows s bare bytes (refused e) = (e.kind ≡ OutOfMemory) ⊎ (IsUtf8 bytes × NothingStands (chars bytes))
Follows s bare bytes not_utf8 = IsUtf8 bytes → ⊥
Follows s bare bytes failed = ⊥

-- what a reader may answer: these bytes, or an error, for want of memory or another
pub record Reader : Type 1 where
  pub Gives : List ℕ → Type 0
  pub RunsOut : Type 0
  pub Fails : Type 0

-- The outcome is that of what the reader answered.
abbrev pub FollowsFrom : Position → Bool → Reader → Outcome → Type 0
FollowsFrom s bare input o =
    ((bytes : List ℕ) × input.Gives bytes × Follows s bare bytes o) ⊎ ((input.RunsOut × (o ≡ out_of_memory)) ⊎ (input.Fails × (o ≡ failed)))

-- a writer after a run: it was asked for nothing, or took this text, or failed at it
pub record Writer : Type 1 where
  pub IsLeft : Type 0
  pub Takes : List ℕ → Type 0
  pub Fails : List ℕ → Type 0

-- the line of an outcome is written, or the writer failed at it
abbrev pub Writes : Writer → List ℕ → Type 0
Writes w text = w.Takes text ⊎ w.Fails text

-- The printed line is written, and nothing beside it, with status 0; or the output failed at it, and the errors take that.
-- Each other outcome is written to the errors alone.
abbrev pub Ends : Outcome → ℕ → Writer → Writer → Type 0
Ends (printed ts) status output errors =
    ((status ≡ 0) × output.Takes (line (printed ts)) × errors.IsLeft) ⊎ ((status ≡ 1) × output.Fails (line (printed ts)) × Writes errors (line failed))
Ends o status output errors = (status ≡ 1) × output.IsLeft × Writes errors (line o)

-- A run for a position, `bare` or not: it had an outcome that follows from what was read, and ended with it.
abbrev pub Ran : Position → Bool → Reader → ℕ → Writer → Writer → Type 0
Ran s bare input status output errors = (o : Outcome) × FollowsFrom s bare input o × Ends o status output errors

-- the report of an outcome: memory runs out where its line has no room
abbrev pub Reports : Outcome → Writer → Type 0
Reports (refused e) errors = Writes errors (line (refused e)) ⊎ Writes errors (line out_of_memory)
Reports o errors = Writes errors (line o)

-- ---- what a writer gains whose write failed, where the bytes that it holds are known

-- a front of a text, and nothing else
abbrev pub GainsFront : Option (List ℕ) → List ℕ → Option (List ℕ) → Type 0
GainsFront old text new = (front more : List ℕ) × (text ≡ front ++ more) × Appends old new front
