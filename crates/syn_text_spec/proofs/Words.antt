-- The words that are printed are identifiers or reserved words.
use Rattle.std.proofs.Common.{◌≡◌, true, refl, codes}
use Rattle.std.specs.Str.{is_utf8, chars}
use lib.Utf8.{encode}
use Rattle.syn_lexer.specs.Lex.{front, reading, token}
use Rattle.unicode_ident.proofs.Computing.{unicode_ident}
use Rattle.syn_text.specs.Lexed.{is_ident_text}

pub record Words : Type 0 where
  pub mut_word : is_ident_text (codes "mut") ≡ true
  pub const_word : is_ident_text (codes "const") ≡ true
  pub underscore : is_ident_text (codes "_") ≡ true
  pub for_word : is_ident_text (codes "for") ≡ true
  pub extern_word : is_ident_text (codes "extern") ≡ true
  pub unsafe_word : is_ident_text (codes "unsafe") ≡ true
  pub fn_word : is_ident_text (codes "fn") ≡ true
  pub as_word : is_ident_text (codes "as") ≡ true
  pub impl_word : is_ident_text (codes "impl") ≡ true
  pub dyn_word : is_ident_text (codes "dyn") ≡ true
  pub ref_word : is_ident_text (codes "ref") ≡ true
  pub return_word : is_ident_text (codes "return") ≡ true
  pub yield_word : is_ident_text (codes "yield") ≡ true
  pub break_word : is_ident_text (codes "break") ≡ true
  pub continue_word : is_ident_text (codes "continue") ≡ true
  pub loop_word : is_ident_text (codes "loop") ≡ true
  pub async_word : is_ident_text (codes "async") ≡ true
  pub move_word : is_ident_text (codes "move") ≡ true
  pub try_word : is_ident_text (codes "try") ≡ true
  pub static_word : is_ident_text (codes "static") ≡ true
  pub use_word : is_ident_text (codes "use") ≡ true
  pub let_word : is_ident_text (codes "let") ≡ true
  pub raw_word : is_ident_text (codes "raw") ≡ true
  pub if_word : is_ident_text (codes "if") ≡ true
  pub while_word : is_ident_text (codes "while") ≡ true
  pub in_word : is_ident_text (codes "in") ≡ true
  pub match_word : is_ident_text (codes "match") ≡ true
  pub else_word : is_ident_text (codes "else") ≡ true
  pub await_word : is_ident_text (codes "await") ≡ true

pub words : Words
unfolding front reading token chars is_utf8 encode unicode_ident
words = record {
  mut_word = refl;
  const_word = refl;
  underscore = refl;
  for_word = refl;
  extern_word = refl;
  unsafe_word = refl;
  fn_word = refl;
  as_word = refl;
  impl_word = refl;
  dyn_word = refl;
  ref_word = refl;
  return_word = refl;
  yield_word = refl;
  break_word = refl;
  continue_word = refl;
  loop_word = refl;
  async_word = refl;
  move_word = refl;
  try_word = refl;
  static_word = refl;
  use_word = refl;
  let_word = refl;
  raw_word = refl;
  if_word = refl;
  while_word = refl;
  in_word = refl;
  match_word = refl;
  else_word = refl;
  await_word = refl;
}
