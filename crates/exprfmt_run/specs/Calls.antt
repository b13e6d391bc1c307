-- `run` is given its reader and its writers as closures. These say which calls it made of them, and what each call answered.
use Rattle.std.specs.Prelude.{◌≡◌, ◌≢◌, ℕ, List, Result, Ok, Err}
use Rattle.std.specs.Fn.{Once, Mut, CalledAt}
use Rattle.std.specs.declared.io.Error.{Error}
use Rattle.std.specs.declared.io.ErrorKind.TheVariants.{OutOfMemory}
use Rattle.std.specs.IoError.{error_kind}
use Rattle.exprfmt_run.specs.Run.{Reader, Writer}
use denote.Ref.{Bor}

module _ {F V : Type 0} (g : Once F (Unit {0}) (Result V Error)) (items : V → List ℕ) (read : F) where
  abbrev pub reader : Reader
  reader = record {
    Gives = λ bytes. (v : V) × g.post read tt (Ok v) × (items v ≡ bytes);
    RunsOut = (e : Error) × g.post read tt (Err e) × (error_kind e ≡ OutOfMemory);
    Fails = (e : Error) × g.post read tt (Err e) × (error_kind e ≢ OutOfMemory);
  }

module _ {F : Type 0} (g : Mut F (Bor (List ℕ) × Unit {0}) (Result (Unit {0}) Error)) (old new : F) where
  abbrev pub writer : Writer
  writer = record {
    IsLeft = new ≡ old;
    Takes = λ text. CalledAt g old text (Ok tt) new;
    Fails = λ text. (e : Error) × CalledAt g old text (Err e) new;
  }
