-- Calls that copy a value that they borrow. Two values count as the same where `seen` shows the same of both.
use Rattle.std.specs.Prelude.{◌≡◌, Result, IfOk, IfErr}
use Rattle.std.specs.declared.alloc.Global.{Global}
use denote.Ref.{Bor}
use Rattle.syn_tokens.specs.declared.error.Error.{Error}
use Rattle.syn_tokens.specs.declared.error.ErrorKind.TheVariants.{OutOfMemory}

-- the call may borrow this value
abbrev pub Takes : {A : Type 0} → (Bor A → Global → Type 0) → Global → A → Type 0
Takes pre alloc x = (borrowed : Bor _) → borrowed.now ≡ x → pre borrowed alloc

-- what it answers shows the same as the value that it borrowed
abbrev pub Copies : {A S : Type 0} → (A → S) → (Bor A → Global → Result A Error → Type 0) → Global → Type 0
Copies seen post alloc = (borrowed : Bor _) (r : _) → post borrowed alloc r → IfOk r (λ y. seen y ≡ seen borrowed.now)

-- it is refused only where memory runs out
abbrev pub RunsOut : {A : Type 0} → (Bor A → Global → Result A Error → Type 0) → Global → Type 0
RunsOut post alloc = (borrowed : Bor _) (r : _) → post borrowed alloc r → IfErr r (λ e. e.kind ≡ OutOfMemory)
