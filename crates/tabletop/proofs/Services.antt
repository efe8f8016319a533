-- The numbers of connections, of lines and of seats that words ask for are in their ranges.
use Rattle.std.proofs.Common.{◌≡◌, ◌≤◌, ℕ, Bool, true, false, List, [], ◌∷◌, Some, None, refl, subst, ap, ◌∙◌}
use Rattle.std.specs.Prelude.{Option, ◌&&◌, nat_le, if◌then◌else◌, codes, option_and_then}
use Rattle.std.proofs.lemmas.Bool.{leb-true}
use Rattle.std.specs.Str.{bytes_eq}
use Rattle.std.specs.Str.Parse.{digits_value}
use Rattle.command_words.specs.Words.{Text, Asked, Play, Check, Drill, Serve, Verify, Compare, is_file, is_whole, is_in, is_player, is_end, play, check, drill, serve, verify, compare, play_words, check_words, drill_words, serve_words, verify_words, compare_words, job_of}
use Rattle.tabletop.specs.ServeEnds.{Service, served_here, service_in}

-- so many may be served, or made, and this is a player's seat
abbrev pub IsServable : Option Asked → Type 0
IsServable None = Unit {0}
IsServable (Some (Play file end)) = Unit {0}
IsServable (Some (Check file)) = Unit {0}
IsServable (Some (Drill number lines)) = (5 ≤ lines) × (lines ≤ 10000)
IsServable (Some (Serve file port count end)) = (1 ≤ count) × (count ≤ 1024)
IsServable (Some (Verify file script seat transcript)) = (1 ≤ seat) × (seat ≤ 32)
IsServable (Some (Compare file script file2 script2 seat)) = (1 ≤ seat) × (seat ≤ 32)

by_if : (b : Bool) (x y : Option Asked) → (b ≡ true → IsServable x) → IsServable y → IsServable (if b then x else y)
by_if true x y first second = first refl
by_if false x y first second = second

last_of : (a b : Bool) → a && b ≡ true → b ≡ true
last_of true b both = both
last_of false b both = absurd cc

first_of : (a b : Bool) → a && b ≡ true → a ≡ true
first_of true b both = refl
first_of false b both = absurd cc

value_in : (least most : ℕ) (text : Text) → is_in least most text ≡ true → (least ≤ digits_value 10 text) × (digits_value 10 text ≤ most)
value_in least most text is =
    let both = last_of (is_whole text) (nat_le least (digits_value 10 text) && nat_le (digits_value 10 text) most) is in
    (leb-true least (digits_value 10 text) (first_of (nat_le least (digits_value 10 text)) (nat_le (digits_value 10 text) most) both), leb-true (digits_value 10 text) most (last_of (nat_le least (digits_value 10 text)) (nat_le (digits_value 10 text) most) both))

pub serve_servable : (file port count : Text) (end : Bool) → IsServable (serve file port count end)
serve_servable file port count end =
    by_if (is_file file && (is_in 1 65535 port && is_in 1 1024 count)) (Some (Serve file (digits_value 10 port) (digits_value 10 count) end)) None
    (λ is. value_in 1 1024 count (last_of (is_in 1 65535 port) (is_in 1 1024 count) (last_of (is_file file) (is_in 1 65535 port && is_in 1 1024 count) is))) tt

play_servable : (file : Text) (end : Bool) → IsServable (play file end)
play_servable file end = by_if (is_file file) (Some (Play file end)) None (λ is. tt) tt

check_servable : (file : Text) → IsServable (check file)
check_servable file = by_if (is_file file) (Some (Check file)) None (λ is. tt) tt

drill_servable : (n lines : Text) → IsServable (drill n lines)
drill_servable n lines = by_if (is_in 0 4294967295 n && is_in 5 10000 lines) (Some (Drill (digits_value 10 n) (digits_value 10 lines))) None (λ is. value_in 5 10000 lines (last_of (is_in 0 4294967295 n) (is_in 5 10000 lines) is)) tt

verify_servable : (file script seat transcript : Text) → IsServable (verify file script seat transcript)
verify_servable file script seat transcript =
    by_if (is_file file && (is_file script && (is_player seat && is_file transcript))) (Some (Verify file script (digits_value 10 seat) transcript)) None
    (λ is. value_in 1 32 seat (first_of (is_player seat) (is_file transcript) (last_of (is_file script) (is_player seat && is_file transcript) (last_of (is_file file) (is_file script && (is_player seat && is_file transcript)) is)))) tt

compare_servable : (file script file2 script2 seat : Text) → IsServable (compare file script file2 script2 seat)
compare_servable file script file2 script2 seat =
    by_if (is_file file && (is_file script && (is_file file2 && (is_file script2 && is_player seat)))) (Some (Compare file script file2 script2 (digits_value 10 seat))) None
    (λ is. value_in 1 32 seat (last_of (is_file script2) (is_player seat) (last_of (is_file file2) (is_file script2 && is_player seat) (last_of (is_file script) (is_file file2 && (is_file script2 && is_player seat)) (last_of (is_file file) (is_file script && (is_file file2 && (is_file script2 && is_player seat))) is))))) tt

plays_servable : (words : List Text) → IsServable (play_words words)
plays_servable [] = tt
plays_servable (a ∷ []) = play_servable a false
plays_servable (a ∷ b ∷ []) = by_if (is_end a) (play b true) (if is_end b then play a true else None) (λ is. play_servable b true) (by_if (is_end b) (play a true) None (λ is. play_servable a true) tt)
plays_servable (a ∷ b ∷ c ∷ words) = tt

checks_servable : (words : List Text) → IsServable (check_words words)
checks_servable [] = tt
checks_servable (a ∷ []) = check_servable a
checks_servable (a ∷ b ∷ words) = tt

drills_servable : (words : List Text) → IsServable (drill_words words)
drills_servable [] = tt
drills_servable (a ∷ []) = tt
drills_servable (a ∷ b ∷ []) = drill_servable a b
drills_servable (a ∷ b ∷ c ∷ words) = tt

serves_servable : (words : List Text) → IsServable (serve_words words)
serves_servable [] = tt
serves_servable (a ∷ []) = tt
serves_servable (a ∷ b ∷ []) = tt
serves_servable (a ∷ b ∷ c ∷ []) = serve_servable a b c false
serves_servable (a ∷ b ∷ c ∷ d ∷ []) =
    by_if (is_end a) (serve b c d true) (if is_end b then serve a c d true else (if is_end c then serve a b d true else (if is_end d then serve a b c true else None))) (λ is. serve_servable b c d true)
    (by_if (is_end b) (serve a c d true) (if is_end c then serve a b d true else (if is_end d then serve a b c true else None)) (λ is. serve_servable a c d true)
    (by_if (is_end c) (serve a b d true) (if is_end d then serve a b c true else None) (λ is. serve_servable a b d true)
    (by_if (is_end d) (serve a b c true) None (λ is. serve_servable a b c true) tt)))
serves_servable (a ∷ b ∷ c ∷ d ∷ e ∷ words) = tt

verifies_servable : (words : List Text) → IsServable (verify_words words)
verifies_servable [] = tt
verifies_servable (a ∷ []) = tt
verifies_servable (a ∷ b ∷ []) = tt
verifies_servable (a ∷ b ∷ c ∷ []) = tt
verifies_servable (a ∷ b ∷ c ∷ d ∷ []) = verify_servable a b c d
verifies_servable (a ∷ b ∷ c ∷ d ∷ e ∷ words) = tt

compares_servable : (words : List Text) → IsServable (compare_words words)
compares_servable [] = tt
compares_servable (a ∷ []) = tt
compares_servable (a ∷ b ∷ []) = tt
compares_servable (a ∷ b ∷ c ∷ []) = tt
compares_servable (a ∷ b ∷ c ∷ d ∷ []) = tt
compares_servable (a ∷ b ∷ c ∷ d ∷ e ∷ []) = compare_servable a b c d e
compares_servable (a ∷ b ∷ c ∷ d ∷ e ∷ f ∷ words) = tt

module _ (command : Text) (words : List Text) where
  abbrev compares : Option Asked
  compares = if bytes_eq command (codes "compare") then compare_words words else None

  abbrev verifies : Option Asked
  verifies = if bytes_eq command (codes "verify") then verify_words words else compares

  abbrev serves : Option Asked
  serves = if bytes_eq command (codes "serve") then serve_words words else verifies

  abbrev drills : Option Asked
  drills = if bytes_eq command (codes "drill") then drill_words words else serves

  abbrev checks : Option Asked
  checks = if bytes_eq command (codes "check") then check_words words else drills

  job_servable : IsServable (job_of (command ∷ words))
  job_servable =
      by_if (bytes_eq command (codes "play")) (play_words words) checks (λ is. plays_servable words)
      (by_if (bytes_eq command (codes "check")) (check_words words) drills (λ is. checks_servable words)
      (by_if (bytes_eq command (codes "drill")) (drill_words words) serves (λ is. drills_servable words)
      (by_if (bytes_eq command (codes "serve")) (serve_words words) verifies (λ is. serves_servable words)
      (by_if (bytes_eq command (codes "verify")) (verify_words words) compares (λ is. verifies_servable words)
      (by_if (bytes_eq command (codes "compare")) (compare_words words) None (λ is. compares_servable words) tt)))))

all_servable : (words : List Text) → IsServable (job_of words)
all_servable [] = tt
all_servable (command ∷ words) = job_servable command words

-- so many are from 1 to 1,024
pub count_is : (words : List Text) (file : Text) (port count : ℕ) (end : Bool) → job_of words ≡ Some (Serve file port count end) → (1 ≤ count) × (count ≤ 1024)
count_is words file port count end is = subst IsServable is (all_servable words)

-- so many lines are from 5 to 10,000
pub lines_are : (words : List Text) (number lines : ℕ) → job_of words ≡ Some (Drill number lines) → (5 ≤ lines) × (lines ≤ 10000)
lines_are words number lines is = subst IsServable is (all_servable words)

-- a player's seat is from 1 to 32
pub verified_seat : (words : List Text) (file script : Text) (seat : ℕ) (transcript : Text) → job_of words ≡ Some (Verify file script seat transcript) → (1 ≤ seat) × (seat ≤ 32)
verified_seat words file script seat transcript is = subst IsServable is (all_servable words)

pub compared_seat : (words : List Text) (file script file2 script2 : Text) (seat : ℕ) → job_of words ≡ Some (Compare file script file2 script2 seat) → (1 ≤ seat) × (seat ≤ 32)
compared_seat words file script file2 script2 seat is = subst IsServable is (all_servable words)

-- what the words ask to be served, by their job
pub service_of : (words : List Text) (asked : Asked) (service : Option Service) → job_of words ≡ Some asked → served_here asked ≡ service → service_in words ≡ service
service_of words asked service is here = ap (option_and_then served_here) is ∙ here

pub no_service : (words : List Text) → job_of words ≡ None → service_in words ≡ None
no_service words is = ap (option_and_then served_here) is
