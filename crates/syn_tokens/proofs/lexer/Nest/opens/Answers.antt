use Rattle.std.proofs.Common.{[], map, refl}
use Rattle.std.proofs.lemmas.List.{map-append}
use Rattle.syn_tokens.specs.Nest.{open_of}
use Rattle.syn_tokens.proofs.Nests.{unfinished-opens, delimiters-append, places-append}
use Rattle.syn_tokens.proofs.lexer.Nest.opens.Goals as goal

pub returns-clause-ok : goal.returns-clause-ok
returns-clause-ok c =
    rw (c.in_ok-push.ensures.items, c.replace-before.ensures.value, c.replace-before.ensures.after, c.new-none.ensures, map-append open_of c.args.self.now.open.items _)
    (unfinished-opens (map open_of c.args.self.now.open.items) c.args.self.now.current c.args.delimiter)

pub returns-clause-open : goal.returns-clause-open
returns-clause-open c =
    rw (c.in_ok-push.ensures.items, map-append open_of c.args.self.now.open.items _, delimiters-append (map open_of c.args.self.now.open.items) _ []) refl

pub returns-clause-places : goal.returns-clause-places
returns-clause-places c = rw c.in_ok-push.ensures.items (places-append c.args.self.now.open.items _ [])
