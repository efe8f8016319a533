-- Runs of the machine, over parts of a trace.
use Rattle.std.proofs.Common.{◌≡◌, ℕ, ◌+◌, Bool, true, false, cond, List, [], ◌∷◌, ◌++◌, map, length, Some, None, refl, sym, ◌∙◌, ap, append_assoc, arith}
use Rattle.std.specs.Prelude.{is_some, option_map, Option, IfSome}
use Rattle.seats.specs.SeatState.{is_joined}
use Rattle.views.specs.declared.view.View.{View}
use Rattle.view_lines.specs.Lines.{full_line}
use Rattle.campaign_law.specs.Views.{change_line}
use Rattle.campaign_law.specs.Seat.{Seat, settled}
use Rattle.campaign_law.specs.World.{view_lines, some_to_list}
use Rattle.campaign_law.specs.Player.{Item, message, view, Machine, printed, after, run, view_items}
use Rattle.campaign_law.proofs.Lists.{ap₂, ap₃}
use Rattle.campaign_law.proofs.Seats.{settled-settled, joined_stays, joined_still}
use Rattle.campaign_law.proofs.Views.{no_change}

abbrev pub after_all : Machine → List Item → Machine
after_all m [] = m
after_all m (item ∷ items) = after_all (after m item) items

pub run-append : (m : Machine) (xs ys : List Item) → run m (xs ++ ys) ≡ run m xs ++ run (after_all m xs) ys
run-append m [] ys = refl
run-append m (x ∷ xs) ys = ap (λ r. printed m x ++ r) (run-append (after m x) xs ys) ∙ sym (append_assoc (printed m x) (run (after m x) xs) (run (after_all (after m x) xs) ys))

pub after_all-append : (m : Machine) (xs ys : List Item) → after_all m (xs ++ ys) ≡ after_all (after_all m xs) ys
after_all-append m [] ys = refl
after_all-append m (x ∷ xs) ys = after_all-append (after m x) xs ys

-- ---- messages

pub run-messages : (m : Machine) (ls : List (List ℕ)) → run m (map message ls) ≡ ls
run-messages m [] = refl
run-messages m (l ∷ ls) = ap (λ r. l ∷ r) (run-messages (after m (message l)) ls)

settled_once_more : (n : ℕ) (o : Option Seat) → IfSome o (λ s. is_joined s.book.state ≡ true) → option_map (settled n) (option_map (settled 1) o) ≡ option_map (settled (1 + n)) o
settled_once_more n None h = refl
settled_once_more n (Some s) h = ap Some (settled-settled 1 n s (joined_stays 1 s h))

joined_after : (o : Option Seat) → IfSome o (λ s. is_joined s.book.state ≡ true) → IfSome (option_map (settled 1) o) (λ s. is_joined s.book.state ≡ true)
joined_after None h = h
joined_after (Some s) h = joined_still 1 s h

after_all-messages : (m : Machine) (l : List ℕ) (ls : List (List ℕ)) → IfSome m.seat (λ s. is_joined s.book.state ≡ true) → after_all m (map message (l ∷ ls)) ≡ record m { seat = option_map (settled (length (l ∷ ls))) m.seat }
after_all-messages m l [] h = refl
after_all-messages m l (k ∷ ls) h =
    after_all-messages (after m (message l)) k ls (joined_after m.seat h)
    ∙ ap (λ s. record m { seat = s }) (settled_once_more (length (k ∷ ls)) m.seat h ∙ (let e : 1 + length (k ∷ ls) ≡ length (l ∷ k ∷ ls) = omega arith in ap (λ n. option_map (settled n) m.seat) e))

settled_none : (o : Option Seat) → IfSome o (λ s. settled 0 s ≡ s) → o ≡ option_map (settled 0) o
settled_none None h = refl
settled_none (Some s) h = ap Some (sym h)

-- what a machine is at after this many messages
pub after_messages : (m : Machine) (ls : List (List ℕ)) → IfSome m.seat (λ s. is_joined s.book.state ≡ true) → IfSome m.seat (λ s. settled 0 s ≡ s) → after_all m (map message ls) ≡ record m { seat = option_map (settled (length ls)) m.seat }
after_messages m [] h k = ap (λ s. record m { seat = s }) (settled_none m.seat k)
after_messages m (l ∷ ls) h k = after_all-messages m l ls h

-- ---- a view

-- what a machine is at after the view of an entry, whether or not an item tells it
abbrev pub seen : Machine → View → List (List ℕ) → Machine
seen m v' ls = record m { seat = option_map (settled (length ls)) m.seat; last = v'; due = false }

seen_change : (m : Machine) (v v' : View) (c : Option (List ℕ)) → change_line v v' ≡ c → m.due ≡ false → m.last ≡ v → IfSome m.seat (λ s. settled 0 s ≡ s) → (run m (cond (is_some c) (view v' ∷ []) []) ≡ some_to_list c) × (after_all m (cond (is_some c) (view v' ∷ []) []) ≡ seen m v' (some_to_list c))
seen_change m v v' (Some line) e d l k =
    let same : view_lines m.due m.last v' ≡ line ∷ [] = ap₂ (λ d l. view_lines d l v') d l ∙ ap some_to_list e in
    (ap (λ ls. ls ++ []) same, ap (λ ls. seen m v' ls) same)
seen_change m v v' None e d l k =
    (refl, ap₃ (λ s l d. record m { seat = s; last = l; due = d }) (settled_none m.seat k) (l ∙ no_change v v' e) d)

pub seen_view : (m : Machine) (full : Bool) (v v' : View) → m.due ≡ full → (full ≡ false → m.last ≡ v) → IfSome m.seat (λ s. settled 0 s ≡ s) → (run m (view_items full v v') ≡ view_lines full v v') × (after_all m (view_items full v v') ≡ seen m v' (view_lines full v v'))
seen_view m true v v' d l k =
    let same : view_lines m.due m.last v' ≡ full_line v' ∷ [] = ap (λ d. view_lines d m.last v') d in
    (ap (λ ls. ls ++ []) same, ap (λ ls. seen m v' ls) same)
seen_view m false v v' d l k = seen_change m v v' (change_line v v') refl d (l refl) k
