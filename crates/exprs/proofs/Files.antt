-- What is written of the bytes of a file.
use Rattle.std.proofs.Common.{◌≡◌, ℕ, Bool, true, false, List, Result, Ok, Err, inl, refl, subst}
use Rattle.std.specs.Prelude.{IfOk}
use Rattle.std.specs.Str.{IsUtf8}
use Rattle.exprs.specs.Answers.{Room, WritesAll, WritesText, WritesFile, HasEmptyLines, IsPrepared}
use Rattle.exprs.specs.View.{source_of}
use Rattle.exprs.specs.declared.args.Settings.{Settings}

pub as_it_is : (blocks : Bool) (bytes : List ℕ) → blocks ≡ false → IsPrepared blocks bytes bytes
as_it_is false bytes e = refl
as_it_is true bytes e = absurd cc

pub emptied : (blocks : Bool) (bytes text : List ℕ) → blocks ≡ true → HasEmptyLines bytes text → IsPrepared blocks bytes text
emptied true bytes text e h = h
emptied false bytes text e h = absurd cc

pub writes_prepared : {E : Type 0} (settings : Settings) (name bytes made text : List ℕ) (r : Result Bool E) (place : Room) → text ≡ made → IsPrepared settings.blocks bytes made
    → IfOk r (λ b. WritesAll (source_of settings name text) b place) → IfOk r (λ b. WritesText settings.blocks (source_of settings name bytes) b place)
writes_prepared settings name bytes made text (Ok b) place is prepared h = (made, prepared, subst (λ w. WritesAll (source_of settings name w) b place) is h)
writes_prepared settings name bytes made text (Err e) place is prepared h = tt

pub writes_file : {E : Type 0} (settings : Settings) (name text bytes : List ℕ) (r : Result Bool E) (place : Room) → IsUtf8 bytes → text ≡ bytes
    → IfOk r (λ b. WritesText settings.blocks (source_of settings name text) b place) → IfOk r (λ b. WritesFile settings.blocks (source_of settings name bytes) b place)
writes_file settings name text bytes (Ok b) place utf8 same h = inl (utf8, subst (λ w. WritesText settings.blocks (source_of settings name w) b place) same h)
writes_file settings name text bytes (Err e) place utf8 same h = tt
