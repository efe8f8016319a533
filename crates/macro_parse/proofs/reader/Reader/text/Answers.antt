use Rattle.macro_parse.specs.declared.nodes.Node.TheVariants.{Quoted as QuotedNode}
use Rattle.macro_grammar.specs.Tree.{Quoted}
use Rattle.macro_grammar.specs.Readers.{quoted_at}
use Rattle.macro_parse.specs.Flat.{Puts, place}
use Rattle.macro_parse.proofs.FlatTrees.{put_quoted}
use Rattle.macro_parse.proofs.Finding.{finds_kept}
use Rattle.macro_parse.proofs.reader.Reader.text.Goals as goal

pub returns-clause-value : goal.returns-clause-value
returns-clause-value c =
    let old = c.args.self.now.nodes.items in
    let new = c.keep.new.nodes.items in
    let at = c.at-at.result in
    let m = c.in_ok-text.text in
    let found = rw c.in-Some.is at c.in-Ok.ensures.value (place c.args.self.now.end c.args.self.now.cursor.rest.now) in
    let e = rw (← c.in_ok-text.ensures.text) at found in
    finds_kept old new (QuotedNode at m) (Puts old new) (λ _. quoted_at (place c.args.self.now.end c.args.self.now.cursor.rest.now)) c.keep.result c.args.self.now.cursor.rest.now c.quoted.new.cursor.rest.now (Quoted at m)
    c.keep.ensures.kept c.keep.ensures.memory (λ i k. put_quoted old new i at m k) (λ turns lt. rw c.at-at.ensures e)
