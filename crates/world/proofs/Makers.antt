-- The makers of tokens used their tags, and have still after a change of the tokens or of a book.
use Rattle.std.proofs.Common.{◌≡◌, ℕ, zero, suc, Bool, true, false, ◌||◌, List, [], ◌∷◌, ◌++◌, Result, Ok, Err, refl, sym, subst}
use Rattle.std.specs.Prelude.{OnOk, OnErr, slice_get}
use Rattle.std.specs.Str.{bytes_eq}
use Rattle.names.specs.declared.kinds.PropClass.{PropClass}
use Rattle.names.specs.declared.kinds.PropClass.TheVariants.{Public, Own, Secret}
use Rattle.names.specs.declared.token_id.TokenId.{TokenId}
use Rattle.seats.specs.Book.{Book, tag_used}
use Rattle.tokens.specs.declared.token.Token.{Token}
use Rattle.tokens.specs.Tokens.{changed, put, with_prop}
use Rattle.world.specs.Scene.{Scene, removed, with_token}
use Rattle.world.specs.World.{World, IsWorld, is_used, are_used, used_by, changed_at}
use Rattle.world.proofs.TokenRules.{all_pass, all_put, all_without, all_changed}

-- ---- books

-- a tag that was used is used still when another one is
pub used_still : (tags : List (List ℕ)) (other tag : List ℕ) → tag_used tags tag ≡ true → tag_used (tags ++ other ∷ []) tag ≡ true
used_still [] other tag h = cc
used_still (first ∷ tags) other tag h = by (bytes_eq first tag) (used_still tags other tag) h
  where
    by : (b : Bool) → (tag_used tags tag ≡ true → tag_used (tags ++ other ∷ []) tag ≡ true) → (b || tag_used tags tag) ≡ true → (b || tag_used (tags ++ other ∷ []) tag) ≡ true
    by true rest h = refl
    by false rest h = rest h

-- where no tag of a book is lost, no use of a tag is
module _ (f : Book → Book) (more : (book : Book) (tag : List ℕ) → tag_used book.tags tag ≡ true → tag_used (f book).tags tag ≡ true) where
  used_by-changed : (books : List Book) (k seat : ℕ) (tag : List ℕ) → used_by (slice_get books seat) tag ≡ true → used_by (slice_get (changed_at k f books) seat) tag ≡ true
  used_by-changed [] k seat tag h = h
  used_by-changed (book ∷ books) zero zero tag h = more book tag h
  used_by-changed (book ∷ books) zero (suc seat) tag h = h
  used_by-changed (book ∷ books) (suc k) zero tag h = h
  used_by-changed (book ∷ books) (suc k) (suc seat) tag h = used_by-changed books k seat tag h

  pub are_used-changed : (books : List Book) (k : ℕ) (tokens : List Token) → are_used books tokens ≡ true → are_used (changed_at k f books) tokens ≡ true
  are_used-changed books k tokens h = all_pass (λ t. is_used books t.id) (λ t. is_used (changed_at k f books) t.id) (λ t. used_by-changed books k t.id.maker t.id.tag) tokens h

-- ---- tokens

-- other tokens, whose makers used their tags
with_tokens : (w : World) (tokens : List Token) → are_used w.books tokens ≡ true → IsWorld w → IsWorld (record w { scene = record w.scene { tokens = tokens } })
with_tokens w tokens used is = record { least = is.least; most = is.most; numbered = is.numbered; players = is.players; tags = used }

-- the scene as the code writes it
as_written : (scene next : Scene) (books : List Book) → next ≡ scene → IsWorld (record { scene = scene; books = books }) → IsWorld (record { scene = next; books = books })
as_written scene next books e is = subst (λ (s : Scene). IsWorld (record { scene = s; books = books })) (sym e) is

pub as_written_if_ok : {V : Type 0} {E : Type 0} (result : Result V E) (old scene next : Scene) (books : List Book) → OnOk result (next ≡ scene) → OnErr result (next ≡ old)
    → IsWorld (record { scene = old; books = books }) → IsWorld (record { scene = scene; books = books }) → IsWorld (record { scene = next; books = books })
as_written_if_ok (Ok x) old scene next books ok err before after = as_written scene next books ok after
as_written_if_ok (Err x) old scene next books ok err before after = as_written old next books err before

pub IsWorld-put : (scene : Scene) (books : List Book) (token : Token) → is_used books token.id ≡ true → IsWorld (record { scene = scene; books = books })
    → IsWorld (record { scene = record scene { tokens = put token scene.tokens }; books = books })
IsWorld-put scene books token used is = with_tokens (record { scene = scene; books = books }) (put token scene.tokens) (all_put (λ t. is_used books t.id) token scene.tokens used is.tags) is

pub IsWorld-without : (scene next : Scene) (books : List Book) (id : TokenId) → next ≡ removed id scene → IsWorld (record { scene = scene; books = books })
    → IsWorld (record { scene = next; books = books })
IsWorld-without scene next books id e is =
    as_written (removed id scene) next books e
    (record { least = is.least; most = is.most; numbered = is.numbered; players = is.players; tags = all_without (λ t. is_used books t.id) id scene.tokens is.tags })

-- a token that keeps its id
pub IsWorld-with_token : (f : Token → Token) → ((t : Token) → (f t).id ≡ t.id) → (scene : Scene) (books : List Book) (id : TokenId) → IsWorld (record { scene = scene; books = books })
    → IsWorld (record { scene = with_token id f scene; books = books })
IsWorld-with_token f same scene books id is =
    with_tokens (record { scene = scene; books = books }) (changed id f scene.tokens)
    (all_changed (λ t. is_used books t.id) f (λ t h. subst (λ (i : TokenId). is_used books i ≡ true) (sym (same t)) h) id scene.tokens is.tags) is

pub IsWorld-changed_token : (f : Token → Token) → ((t : Token) → (f t).id ≡ t.id) → (scene next : Scene) (books : List Book) (id : TokenId) → next ≡ with_token id f scene
    → IsWorld (record { scene = scene; books = books }) → IsWorld (record { scene = next; books = books })
IsWorld-changed_token f same scene next books id e is = as_written (with_token id f scene) next books e (IsWorld-with_token f same scene books id is)

pub with_prop_keeps_id : (class : PropClass) (name value : List ℕ) (t : Token) → (with_prop class name value t).id ≡ t.id
with_prop_keeps_id Public name value t = refl
with_prop_keeps_id Own name value t = refl
with_prop_keeps_id Secret name value t = refl
