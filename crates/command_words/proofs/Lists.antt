-- Lists of words that are shorter or longer than a form.
use Rattle.std.proofs.Common.{◌≡◌, ℕ, ◌<◌, ◌≤◌, true, false, List, [], ◌∷◌, map, length, refl, arith}
use Rattle.std.specs.Prelude.{None, nat_lt}
use Rattle.std.proofs.lemmas.Bool.Decides.{nat_tests}
use Rattle.command_words.specs.Words.{Text, drill_words, serve_words, verify_words, compare_words}
use Rattle.command_words.specs.LoggedServe.{logged_serve_of}

below : (m n : ℕ) → nat_lt m n ≡ true → m < n
below m n e = grind (arith, nat_tests)

not_below : (m n : ℕ) → nat_lt m n ≡ false → n ≤ m
not_below m n e = grind (arith, nat_tests)

module _ {S : Type 0} (f : S → Text) where
  drill_below : (ws : List S) → length ws < 2 → None ≡ drill_words (map f ws)
  drill_below [] h = refl
  drill_below (a ∷ []) h = refl
  drill_below (a ∷ b ∷ ws) h = absurd (omega arith)

  drill_above : (ws : List S) → 3 ≤ length ws → None ≡ drill_words (map f ws)
  drill_above [] h = absurd (omega arith)
  drill_above (a ∷ []) h = absurd (omega arith)
  drill_above (a ∷ b ∷ []) h = absurd (omega arith)
  drill_above (a ∷ b ∷ c ∷ ws) h = refl

  serve_below : (ws : List S) → length ws < 3 → None ≡ serve_words (map f ws)
  serve_below [] h = refl
  serve_below (a ∷ []) h = refl
  serve_below (a ∷ b ∷ []) h = refl
  serve_below (a ∷ b ∷ c ∷ ws) h = absurd (omega arith)

  serve_above : (ws : List S) → 5 ≤ length ws → None ≡ serve_words (map f ws)
  serve_above [] h = absurd (omega arith)
  serve_above (a ∷ []) h = absurd (omega arith)
  serve_above (a ∷ b ∷ []) h = absurd (omega arith)
  serve_above (a ∷ b ∷ c ∷ []) h = absurd (omega arith)
  serve_above (a ∷ b ∷ c ∷ d ∷ []) h = absurd (omega arith)
  serve_above (a ∷ b ∷ c ∷ d ∷ g ∷ ws) h = refl

  verify_below : (ws : List S) → length ws < 4 → None ≡ verify_words (map f ws)
  verify_below [] h = refl
  verify_below (a ∷ []) h = refl
  verify_below (a ∷ b ∷ []) h = refl
  verify_below (a ∷ b ∷ c ∷ []) h = refl
  verify_below (a ∷ b ∷ c ∷ d ∷ ws) h = absurd (omega arith)

  verify_above : (ws : List S) → 5 ≤ length ws → None ≡ verify_words (map f ws)
  verify_above [] h = absurd (omega arith)
  verify_above (a ∷ []) h = absurd (omega arith)
  verify_above (a ∷ b ∷ []) h = absurd (omega arith)
  verify_above (a ∷ b ∷ c ∷ []) h = absurd (omega arith)
  verify_above (a ∷ b ∷ c ∷ d ∷ []) h = absurd (omega arith)
  verify_above (a ∷ b ∷ c ∷ d ∷ g ∷ ws) h = refl

  compare_below : (ws : List S) → length ws < 5 → None ≡ compare_words (map f ws)
  compare_below [] h = refl
  compare_below (a ∷ []) h = refl
  compare_below (a ∷ b ∷ []) h = refl
  compare_below (a ∷ b ∷ c ∷ []) h = refl
  compare_below (a ∷ b ∷ c ∷ d ∷ []) h = refl
  compare_below (a ∷ b ∷ c ∷ d ∷ g ∷ ws) h = absurd (omega arith)

  compare_above : (ws : List S) → 6 ≤ length ws → None ≡ compare_words (map f ws)
  compare_above [] h = absurd (omega arith)
  compare_above (a ∷ []) h = absurd (omega arith)
  compare_above (a ∷ b ∷ []) h = absurd (omega arith)
  compare_above (a ∷ b ∷ c ∷ []) h = absurd (omega arith)
  compare_above (a ∷ b ∷ c ∷ d ∷ []) h = absurd (omega arith)
  compare_above (a ∷ b ∷ c ∷ d ∷ g ∷ []) h = absurd (omega arith)
  compare_above (a ∷ b ∷ c ∷ d ∷ g ∷ i ∷ ws) h = refl

  pub drill_few : (ws : List S) → nat_lt (length ws) 2 ≡ true → None ≡ drill_words (map f ws)
  drill_few ws e = drill_below ws (below (length ws) 2 e)

  pub drill_many : (ws : List S) → nat_lt (length ws) 3 ≡ false → None ≡ drill_words (map f ws)
  drill_many ws e = drill_above ws (not_below (length ws) 3 e)

  pub serve_few : (ws : List S) → nat_lt (length ws) 3 ≡ true → None ≡ serve_words (map f ws)
  serve_few ws e = serve_below ws (below (length ws) 3 e)

  pub serve_many : (ws : List S) → nat_lt (length ws) 5 ≡ false → None ≡ serve_words (map f ws)
  serve_many ws e = serve_above ws (not_below (length ws) 5 e)

  pub verify_few : (ws : List S) → nat_lt (length ws) 4 ≡ true → None ≡ verify_words (map f ws)
  verify_few ws e = verify_below ws (below (length ws) 4 e)

  pub verify_many : (ws : List S) → nat_lt (length ws) 5 ≡ false → None ≡ verify_words (map f ws)
  verify_many ws e = verify_above ws (not_below (length ws) 5 e)

  pub compare_few : (ws : List S) → nat_lt (length ws) 5 ≡ true → None ≡ compare_words (map f ws)
  compare_few ws e = compare_below ws (below (length ws) 5 e)

  pub compare_many : (ws : List S) → nat_lt (length ws) 6 ≡ false → None ≡ compare_words (map f ws)
  compare_many ws e = compare_above ws (not_below (length ws) 6 e)

  logged_serve_below : (ws : List S) → length ws < 6 → None ≡ logged_serve_of (map f ws)
  logged_serve_below [] h = refl
  logged_serve_below (a ∷ []) h = refl
  logged_serve_below (a ∷ b ∷ []) h = refl
  logged_serve_below (a ∷ b ∷ c ∷ []) h = refl
  logged_serve_below (a ∷ b ∷ c ∷ d ∷ []) h = refl
  logged_serve_below (a ∷ b ∷ c ∷ d ∷ g ∷ []) h = refl
  logged_serve_below (a ∷ b ∷ c ∷ d ∷ g ∷ i ∷ ws) h = absurd (omega arith)

  pub logged_serve_few : (ws : List S) → nat_lt (length ws) 6 ≡ true → None ≡ logged_serve_of (map f ws)
  logged_serve_few ws e = logged_serve_below ws (below (length ws) 6 e)
