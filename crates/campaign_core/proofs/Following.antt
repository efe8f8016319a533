-- What a seat is shown after an entry fits what it was shown.
use Rattle.std.proofs.Common.{◌≡◌, ◌≤◌, ◌∙◌, ℕ, Bool, true, false, cond, List, Some, None, sym, ap, subst}
use Rattle.std.specs.Prelude.{Option, All, is_some, option_and_then, slice_get}
use Rattle.view_change.specs.Views.{FitsAmong}
use Rattle.view_keep.specs.declared.keep.KeptView.{KeptView}
use Rattle.view_keep.specs.Kept.{put_at, unless_stale, view_at}
use Rattle.views.specs.declared.view.View.{View}
use Rattle.views.specs.Views.{KeepLetters}
use Rattle.player_view.specs.Lettered.{HaveLetters, LettersStay}
use Rattle.player_view.specs.Tables.{HasTables}
use Rattle.player_view.specs.View.{view_of}
use Rattle.world.specs.Scene.{Scene}
use Rattle.campaign_law.specs.declared.entry.Entry.{Entry}
use Rattle.campaign_law.specs.World.{World, scene_after}
use Rattle.campaign_law.specs.Worlds.{FitsTogether}
use Rattle.campaign_law.proofs.Feeding.{views_fit as views_fit_in_law}
use Rattle.campaign_core.specs.Glances.{ViewsFit}
use Rattle.campaign_core.specs.Shown.{new_view}

pub views_fit : (w : World) (e : Entry) → FitsTogether w → HasTables w.scene → ViewsFit w.scene (scene_after w e)
views_fit w e fits tables seat within = views_fit_in_law w e seat fits tables within

-- ---- the views that are kept and made

kept_put : (o : Option KeptView) (v : View) → option_and_then unless_stale o ≡ Some v → option_and_then (λ (kept : KeptView). kept.view) o ≡ Some v
kept_put None v h = cc
kept_put (Some kept) v h = by kept.stale h
  where
    by : (b : Bool) → cond b None kept.view ≡ Some v → kept.view ≡ Some v
    by true h = cc
    by false h = h

-- the kept view without a mark is the view that was put
pub put_of : (seat : ℕ) (views : List KeptView) (v : View) → view_at seat views ≡ Some v → put_at seat views ≡ Some v
put_of seat views v h = kept_put (slice_get views seat) v h

pub is_there : (o : Option View) (v : View) → o ≡ Some v → is_some o ≡ true
is_there o v h = ap is_some h

pub kept_is : (seat : ℕ) (views : List KeptView) (v kept : View) → view_at seat views ≡ Some v → put_at seat views ≡ Some kept → kept ≡ v
kept_is seat views v kept shown put = let same : Some kept ≡ Some v = sym put ∙ put_of seat views v shown in cc

made_is_new : (stays : Bool) (after : Scene) (seat : ℕ) (v : View) → new_view stays after seat ≡ Some v → v ≡ view_of after seat
made_is_new true after seat v h = cc
made_is_new false after seat v h = cc

pub pair_fits : (before after : Scene) (seat : ℕ) (views : List KeptView) (stays : Bool) (kept v : View) → ViewsFit before after → seat ≤ before.fog.players → view_at seat views ≡ Some (view_of before seat)
    → put_at seat views ≡ Some kept → new_view stays after seat ≡ Some v → All (FitsAmong kept.maps) v.maps
pair_fits before after seat views stays kept v fit within shown put made =
    subst (λ (a : View). All (FitsAmong a.maps) v.maps) (sym (kept_is seat views (view_of before seat) kept shown put))
    (subst (λ (b : View). All (FitsAmong (view_of before seat).maps) b.maps) (sym (made_is_new stays after seat v made)) (fit seat within))

pub pair_keeps : (before after : Scene) (seat : ℕ) (views : List KeptView) (stays : Bool) (kept v : View) → LettersStay before after → view_at seat views ≡ Some (view_of before seat)
    → put_at seat views ≡ Some kept → new_view stays after seat ≡ Some v → KeepLetters kept.maps v.maps
pair_keeps before after seat views stays kept v letters shown put made =
    subst (λ (a : View). KeepLetters a.maps v.maps) (sym (kept_is seat views (view_of before seat) kept shown put))
    (subst (λ (b : View). KeepLetters (view_of before seat).maps b.maps) (sym (made_is_new stays after seat v made)) (letters.kept seat))

-- what a seat was shown has the letters of maps that stay
pub older_has : (before after : Scene) (seat : ℕ) (views : List KeptView) (kept : View) → LettersStay before after → view_at seat views ≡ Some (view_of before seat)
    → put_at seat views ≡ Some kept → HaveLetters after.maps kept.maps
older_has before after seat views kept letters shown put =
    subst (λ (a : View). HaveLetters after.maps a.maps) (sym (kept_is seat views (view_of before seat) kept shown put)) (letters.had seat)
