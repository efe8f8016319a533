use Rattle.std.proofs.Common.{arith, rules}
use Rattle.seat_random.specs.Stream.{word_of, after}
use Rattle.dice_roll.proofs.RollingTerms.{values_few}
use Rattle.dice_roll.proofs.groups.part_worth.Goals as goal

pub worth-requires-clause-few : goal.worth-requires-clause-few
worth-requires-clause-few c =
    let few = values_few (word_of c.args.stream.now) c.in-Group.group c.in-Group.group.count in
    let fits = rw c.in-Group.is at c.requires in
    let most = fits.count in
    rw (c.deref_mut.ensures.value, c.in_ok-roll_group-in-Group.ensures.values, c.new-values.ensures.items) (omega arith)

pub returns-in-Number-clause-stream : goal.returns-in-Number-clause-stream
unfolding after
returns-in-Number-clause-stream c = rw c.in-Number.is (search rules)
