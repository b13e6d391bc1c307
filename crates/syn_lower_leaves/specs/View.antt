-- The parts that hold no others as trees without places.
use Rattle.std.specs.Prelude.{Bool, true, false, ◌∷◌, Option, Some, None, not, ◌&&◌, List, [], ◌++◌, map, is_some}
use Rattle.syn_lexer.specs.declared.front.Delimiter.{Delimiter}
use Rattle.syn_lexer.specs.declared.front.Delimiter.TheVariants as del
use Rattle.syn_lower_spec.specs.declared.label.LitKind.TheVariants as kind
use Rattle.syn_lower_spec.specs.Text.{Text}
use Rattle.syn_lower_spec.specs.Tree.{LitTree, AttributeTree, LifetimesTree}
use Rattle.syn_lower_leaves.specs.declared.lifetime.Lifetime.{Lifetime}
use Rattle.syn_lower_leaves.specs.declared.lit.Lit.{Lit}
use Rattle.syn_lower_leaves.specs.declared.lit.Lit.TheVariants as lit
use Rattle.syn_lower_leaves.specs.declared.lit.LitStr.{LitStr}
use Rattle.syn_lower_leaves.specs.declared.lit.LitInt.{LitInt}
use Rattle.syn_lower_leaves.specs.declared.lit.LitFloat.{LitFloat}
use Rattle.syn_lower_leaves.specs.declared.attr.Attribute.{Attribute}
use Rattle.syn_lower_leaves.specs.declared.attr.AttrStyle.{AttrStyle}
use Rattle.syn_lower_leaves.specs.declared.attr.AttrStyle.TheVariants as style
use Rattle.syn_lower_leaves.specs.declared.mac.MacroDelimiter.{MacroDelimiter}
use Rattle.syn_lower_leaves.specs.declared.mac.MacroDelimiter.TheVariants as mac
use Rattle.std.specs.declared.boxed.Box.{Box}
use Rattle.std.specs.declared.alloc.Global.{Global}
use Rattle.syn_lower_leaves.specs.declared.punctuated.Punctuated.{Punctuated}
use Rattle.syn_lower_leaves.specs.declared.ty.BoundLifetimes.{BoundLifetimes}
use Rattle.syn_lower_leaves.specs.declared.ty.PointerMutability.{PointerMutability}
use Rattle.syn_lower_leaves.specs.declared.ty.PointerMutability.TheVariants as pointer
use Rattle.syn_lower_leaves.specs.declared.ty.Abi.{Abi}

abbrev pub mapped : {A B : Type 0} → (A → B) → Option A → Option B
mapped f None = None
mapped f (Some x) = Some (f x)

abbrev pub lifetime_of : Lifetime → Text
lifetime_of x = x.ident

abbrev pub is_inner : AttrStyle → Bool
is_inner style.Outer = false
is_inner (style.Inner b) = true

abbrev pub attribute_of : Attribute → AttributeTree
attribute_of x = record { inner = is_inner x.style; tokens = x.tokens }

-- the text of a number, with its sign
abbrev pub signed : {A : Type 0} → Option A → Text → Text
signed None text = text
signed (Some m) text = 45 ∷ text

abbrev pub lit_str_of : LitStr → LitTree
lit_str_of x = record { kind = kind.Str; text = x.token }

abbrev pub lit_int_of : LitInt → LitTree
lit_int_of x = record { kind = kind.Int; text = signed x.minus_token x.token }

abbrev pub lit_float_of : LitFloat → LitTree
lit_float_of x = record { kind = kind.Float; text = signed x.minus_token x.token }

abbrev pub lit_of : Lit → LitTree
lit_of (lit.Str x) = lit_str_of x
lit_of (lit.ByteStr x) = record { kind = kind.ByteStr; text = x.token }
lit_of (lit.CStr x) = record { kind = kind.CStr; text = x.token }
lit_of (lit.Byte x) = record { kind = kind.Byte; text = x.token }
lit_of (lit.Char x) = record { kind = kind.Char; text = x.token }
lit_of (lit.Int x) = lit_int_of x
lit_of (lit.Float x) = lit_float_of x
lit_of (lit.Bool x) = record { kind = kind.Bool; text = x.word }

abbrev pub delimiter_of : MacroDelimiter → Delimiter
delimiter_of (mac.Paren d) = del.Parenthesis
delimiter_of (mac.Brace d) = del.Brace
delimiter_of (mac.Bracket d) = del.Bracket

-- ---- lists with puncts by their values, and the parts of types that hold no types as trees, without their places

-- ---- lists with puncts

abbrev pub last_of : {A : Type 0} → Option (Box A Global) → List A
last_of None = []
last_of (Some b) = b.value ∷ []

-- the values of a list with puncts
unfoldable pub values : {A P : Type 0} → Punctuated A P → List A
values p = map (λ q. q.0) p.inner.items ++ last_of p.last

abbrev pub is_some_pair : {A : Type 0} → List A → Bool
is_some_pair [] = false
is_some_pair (x ∷ xs) = true

-- whether a punct ends it
unfoldable pub trails : {A P : Type 0} → Punctuated A P → Bool
trails p = is_some_pair p.inner.items && not (is_some p.last)

-- ---- parts that hold no types

abbrev pub lifetimes_of : BoundLifetimes → LifetimesTree
lifetimes_of x = (map lifetime_of (values x.lifetimes), trails x.lifetimes)

abbrev pub abi_of : Abi → Option LitTree
abi_of x = mapped lit_str_of x.name

abbrev pub is_mut : PointerMutability → Bool
is_mut (pointer.Const c) = false
is_mut (pointer.Mut m) = true
