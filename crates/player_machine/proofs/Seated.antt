-- The machine's seat after its own entry.
use Rattle.std.proofs.Common.{◌≡◌, ℕ, ◌+◌, ◌-◌, ◌++◌, true, List, length, length-append, ◌∙◌, ap, arith}
use Rattle.std.specs.Prelude.{Option, option_map}
use Rattle.campaign_law.specs.declared.entry.Entry.{Entry}
use Rattle.campaign_law.specs.Seat.{Seat, settled}
use Rattle.campaign_law.specs.Outcome.{Outcome, seat_of}
use Rattle.campaign_law.specs.World.{changed, queued_reply}
use Rattle.campaign_law.specs.Player.{Machine, own, own_messages, own_outcome, queued_own, after}

-- what isn't direct is queued
queued_count : (o : Outcome) (before : Option Seat) (q queued direct n : ℕ) (lines : List (List ℕ)) → lines ≡ o.reply ++ own_messages before q o → n ≡ length lines
    → direct + length (queued_reply o) ≡ length o.reply → queued ≡ n - direct → queued ≡ length (queued_own before q o)
queued_count o before q queued direct n lines words count reply rest =
    let whole : length lines ≡ length o.reply + length (own_messages before q o) = ap length words ∙ length-append o.reply (own_messages before q o) in
    let apart : length (queued_own before q o) ≡ length (queued_reply o) + length (own_messages before q o) = length-append (queued_reply o) (own_messages before q o) in
    omega arith

pub seat_is : (m : Machine) (e : Entry) (steps : ℕ) (o : Outcome) (before s : Option Seat) (q queued direct n : ℕ) (lines : List (List ℕ)) → o ≡ own_outcome m e steps → before ≡ m.seat → q ≡ seat_of e
    → lines ≡ o.reply ++ own_messages before q o → n ≡ length lines → direct + length (queued_reply o) ≡ length o.reply → queued ≡ n - direct
    → s ≡ option_map (λ x. settled queued (changed o true x)) before → s ≡ (after m (own e steps)).seat
seat_is m e steps o before s q queued direct n lines is at seat words count reply rest made =
    made
    ∙ ap (λ k. option_map (λ x. settled k (changed o true x)) before) (queued_count o before q queued direct n lines words count reply rest)
    ∙ (λ i. option_map (λ x. settled (length (queued_own (at i) (seat i) (is i))) (changed (is i) true x)) (at i))
