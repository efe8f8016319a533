use Rattle.std.proofs.Common.{◌-◌}
use Rattle.macro_parse.specs.Flat.{place}
use Rattle.macro_parse.proofs.RollsFound.{first_branch, first_address}
use Rattle.macro_parse.proofs.reader.Reader.first.Goals as goal

pub returns-then-next_is_branch-clause-value : goal.returns-then-next_is_branch-clause-value
returns-then-next_is_branch-clause-value c =
    first_branch (c.args.depth - 1) (place c.args.self.now.end c.args.self.now.cursor.rest.now) c.args.self.now.cursor.rest.now c.branch-self.new.self.cursor.rest.now c.args.self.now.nodes.items c.branch-self.new.self.nodes.items c.in_ok-branch.branch c.if-next_is_branch.ensures c.in_ok-branch.ensures.value

pub returns-clause-value : goal.returns-clause-value
returns-clause-value c =
    first_address (c.args.depth - 1) (place c.args.self.now.end c.args.self.now.cursor.rest.now) c.args.self.now.cursor.rest.now c.address.new.self.cursor.rest.now c.args.self.now.nodes.items c.address.new.self.nodes.items c.in_ok-address.address c.if-next_is_branch.ensures c.in_ok-address.ensures.value
