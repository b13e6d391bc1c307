use Rattle.std.proofs.Common.{◌≡◌, ◌+◌, ◌++◌, ◌∷◌, [], ℕ, List, drop, take, length, encode_utf8_all, arith, sym, ◌∙◌, append_assoc}
use Rattle.std.proofs.lemmas.List.{take-append-drop}
use Rattle.std.specs.Rc.{rc_str_bytes}
use Rattle.syn_lexer.specs.declared.front.Spacing.TheVariants.{Joint}
use Rattle.syn_tokens.specs.Lex.{leaf}
use Rattle.syn_tokens.specs.Nest.{nest_pieces}
use Rattle.syn_tokens.specs.Standing.{StandAt}
use Rattle.syn_tokens.specs.Tok.{punct, ident}
use Rattle.syn_tokens.proofs.Standing.{stand_in_order, stand_from, stand_to, stand_are, stand_behind}
use Rattle.syn_tokens.proofs.lexer.Nest.lifetime.Goals as goal

-- the name after the quote
name_stands : (bytes : List ℕ) (lo hi : ℕ) (read : List ℕ) → StandAt bytes lo hi read → StandAt bytes (lo + length (encode_utf8_all (take 1 read))) hi (drop 1 read)
name_stands bytes lo hi read s = stand_behind bytes lo hi (take 1 read) (drop 1 read) (rw (take-append-drop 1 read) s)

pub past-behind-requires : goal.past-behind-requires
past-behind-requires c =
    let order = stand_in_order (rc_str_bytes c.args.text.now) _ c.args.span.hi (drop 1 c.args.read.now) (name_stands (rc_str_bytes c.args.text.now) c.args.span.lo c.args.span.hi c.args.read.now c.requires.stands) in
    rw c.split_at.ensures.front (omega arith)

pub part-requires-clause-order : goal.part-requires-clause-order
part-requires-clause-order c =
    rw (c.past-behind.ensures, c.split_at.ensures.front) (stand_in_order (rc_str_bytes c.args.text.now) _ c.args.span.hi (drop 1 c.args.read.now) (name_stands (rc_str_bytes c.args.text.now) c.args.span.lo c.args.span.hi c.args.read.now c.requires.stands))

pub part-requires-clause-from : goal.part-requires-clause-from
part-requires-clause-from c =
    rw (c.past-behind.ensures, c.split_at.ensures.front) (stand_from (rc_str_bytes c.args.text.now) _ c.args.span.hi (drop 1 c.args.read.now) (name_stands (rc_str_bytes c.args.text.now) c.args.span.lo c.args.span.hi c.args.read.now c.requires.stands))

pub part-requires-clause-to : goal.part-requires-clause-to
part-requires-clause-to c = stand_to (rc_str_bytes c.args.text.now) c.args.span.lo c.args.span.hi c.args.read.now c.requires.stands

pub returns-clause-ok : goal.returns-clause-ok
returns-clause-ok c =
    let name = stand_are (rc_str_bytes c.args.text.now) _ c.args.span.hi (drop 1 c.args.read.now) (name_stands (rc_str_bytes c.args.text.now) c.args.span.lo c.args.span.hi c.args.read.now c.requires.stands) in
    let word : c.read.result ≡ encode_utf8_all (drop 1 c.args.read.now) = c.read.ensures ∙ c.in_ok-name.ensures ∙ rw (c.past-behind.ensures, c.split_at.ensures.front) name in
    let both : nest_pieces c.args.self.now ++ leaf (punct 39 Joint) ∷ leaf (ident (encode_utf8_all (drop 1 c.args.read.now))) ∷ [] ≡ nest_pieces c.leaf.new.self ++ leaf (ident c.read.result) ∷ [] = rw (word, c.in_ok-leaf.ensures.ok)
    (sym (append_assoc (nest_pieces c.args.self.now) (leaf (punct 39 Joint) ∷ []) (leaf (ident (encode_utf8_all (drop 1 c.args.read.now))) ∷ []))) in
    rw both c.leaf-2.ensures.ok
