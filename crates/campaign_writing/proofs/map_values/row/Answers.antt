use Rattle.std.proofs.Common.{ℕ, ◌<◌, ap, ◌∙◌, ◌++◌, arith}
use Rattle.std.specs.Prelude.{IsTrue, string_bytes, encode_utf8}
use Rattle.std.proofs.lemmas.Bool.Decides.{nat_tests}
use Rattle.std.proofs.lemmas.Str.{encode_ascii}
use Rattle.names.specs.Letters.{is_letter}
use Rattle.maps.specs.Maps.{letter_at}
use Rattle.campaign_writing.proofs.Parts.{one_more}
use Rattle.campaign_writing.proofs.map_values.row.Goals as goal

low : (letter : ℕ) → IsTrue (is_letter letter) → letter < 128
low letter h = grind (arith, nat_tests)

pub loop-x-preserved : goal.loop-x-preserved
loop-x-preserved c =
    c.in_ok-push.ensures.bytes ∙ ap (λ e. string_bytes c.loop-x.text ++ e) (ap encode_utf8 c.from.ensures ∙ encode_ascii c.letter.result (low c.letter.result c.letter.ensures.letter))
    ∙ one_more (λ (x : ℕ). letter_at c.args.map.now x c.args.y) c.loop-x.x (string_bytes c.loop-x.text) c.letter.result c.loop-x.invariant c.letter.ensures.value
