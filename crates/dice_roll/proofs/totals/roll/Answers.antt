use Rattle.std.proofs.Common.{◌≡◌, ◌≤◌, arith}
use Rattle.seat_random.specs.Stream.{word_of, after}
use Rattle.dice_roll.specs.Rolling.{words_used}
use Rattle.dice_roll.proofs.RollingTerms.{rolled_ahead}
use Rattle.dice_roll.proofs.totals.roll.Goals as goal

told : (c : goal.After-words_between-words) → (c.words_between-words.result ≡ words_used (word_of c.args.stream.now) c.args.dice.now) × (c.words_between-words.result ≤ 19200)
    × (c.total.new.stream ≡ after c.args.stream.now c.words_between-words.result)
told c =
    let same = rw (c.seed.ensures, c.drawn.ensures.drawn) at c.new-ahead.ensures in
    let moved = rw c.terms.ensures.terms at c.in-Ok.ensures.stream in
    let lt = rw c.drawn.ensures.drawn at c.drawn.ensures.bound in
    rolled_ahead c.args.stream.now c.new-ahead.result c.total.new.stream c.drawn-2.result c.drawn-3.result c.words_between-words.result c.args.dice.now lt same c.terms.ensures.within moved c.drawn-2.ensures.drawn c.drawn-3.ensures.drawn c.words_between-words.ensures

pub overflow_cast-result : goal.overflow_cast-result
overflow_cast-result c = let k = told c in omega (arith, k.1)

pub returns-clause-words : goal.returns-clause-words
returns-clause-words c = (told c).0

pub returns-clause-few : goal.returns-clause-few
returns-clause-few c = (told c).1

pub returns-clause-stream : goal.returns-clause-stream
returns-clause-stream c = (told c).2
