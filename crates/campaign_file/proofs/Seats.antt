-- Seats, read one after the other.
use Rattle.std.proofs.Common.{◌≡◌, ℕ, ◌+◌, ◌<◌, ◌≤◌, List, [], ◌∷◌, ◌++◌, length, get_or, Bool, true, false, cond, Option, Some, None, Ok, ap, subst, ◌∙◌, arith}
use Rattle.std.specs.Prelude.{IfSome, codes, option_and_then}
use Rattle.std.proofs.lemmas.List.{length-append}
use Rattle.serde_json.specs.Data.{Data, Items}
use Rattle.serde_json.specs.Events.{items_len}
use Rattle.serde_json.specs.Find.{get, as_array}
use Rattle.serde_json.specs.View.{view, items_view}
use Rattle.serde_json.specs.declared.value.Value.{Value}
use Rattle.json_fields.specs.Kinds.{counted, list_from}
use Rattle.json_fields.specs.Objects.{◌>>=◌}
use Rattle.json_fields.proofs.Reading.{items_len_view}
use Rattle.seats.specs.Book.{Book, fresh_book}
use Rattle.world.specs.Scene.{Scene}
use Rattle.campaign_json.specs.declared.faults.FileFault.{FileFault}
use Rattle.campaign_json.specs.declared.faults.FileFault.TheVariants.{Bad, Memory}
use Rattle.campaign_json.specs.declared.faults.Rule.TheVariants.{Missing, Kind, Range}
use Rattle.campaign_json.specs.Reading.{Fails, needed, field, under}
use Rattle.campaign_json.specs.Kinds.{list}
use Rattle.campaign_scene.specs.Kept.{kept}
use Rattle.campaign_file.specs.Campaign.{players_in, players_among}
use Rattle.campaign_file.specs.Macros.{unfilled}
use Rattle.campaign_file.specs.Seats.{seat, seated, IsFreshAt, AreFreshFrom}
use Rattle.campaign_json.proofs.Each.{IsReadTo, read_more}

-- a fresh book stays fresh with tags and macros
pub fresh_at : (place : ℕ) (book : Book) (key seed : List ℕ) (drawn : ℕ) → unfilled book ≡ unfilled (fresh_book place key seed drawn) → IsFreshAt place book
fresh_at place book key seed drawn e = record {
  seat = ap (λ b. b.seat) e;
  fresh = record { state = ap (λ b. b.state) e; lines = ap (λ b. b.lines) e };
}

fresh_from : (place : ℕ) (books : List Book) (book : Book) → AreFreshFrom place books → IsFreshAt (place + length books) book → AreFreshFrom place (books ++ book ∷ [])
fresh_from place [] book fresh last =
    let e : place + length {A = Book} [] ≡ place = omega arith in
    (subst (λ (n : ℕ). IsFreshAt n book) e last, tt)
fresh_from place (first ∷ books) book fresh last =
    let e : place + length (first ∷ books) ≡ (place + 1) + length books = omega arith in
    (fresh.0, fresh_from (place + 1) books book fresh.1 (subst (λ (n : ℕ). IsFreshAt n book) e last))

-- the seat that was found is the one of the number
pub seat_is : (found : Option ℕ) (seat place : ℕ) → found ≡ Some seat → IfSome found (λ s. s ≡ place) → seat ≡ place
seat_is None seat place e h = absurd cc
seat_is (Some s) seat place e h = cc

pub pushed_is : {A : Type 0} (test : Bool) (old new : List A) (a : A) → test ≡ true → new ≡ cond test (old ++ a ∷ []) old → new ≡ old ++ a ∷ []
pushed_is true old new a e h = h
pushed_is false old new a e h = absurd cc

-- what the loop over the seats keeps at a place
pub record AreReadTo (values : List Value) (start : Scene) (place : ℕ) (scene : Scene) (books : List Book) : Type 0 where
  pub read : IsReadTo seated (λ w. kept w.scene) values (record { scene = start; books = [] }) place (record { scene = scene; books = books })
  pub count : length books ≡ place
  pub fresh : AreFreshFrom 0 books

count_more : (books : List Book) (book : Book) (n : ℕ) → length books ≡ n → length (books ++ book ∷ []) ≡ n + 1
count_more books book n h = length-append books (book ∷ []) ∙ ap (λ (k : ℕ). k + 1) h

seated_is : (place : ℕ) (scene next : Scene) (books : List Book) (book : Book) (d : Data) → seat place scene d ≡ Ok (book, next) → seated place (record { scene = scene; books = books }) d ≡ Ok (record { scene = next; books = books ++ book ∷ [] })
unfolding seated
seated_is place scene next books book d e = rw e

pub seated_fails : (place : ℕ) (scene : Scene) (books : List Book) (d : Data) (fault : FileFault) → Fails fault (seat place scene d) → Fails fault (seated place (record { scene = scene; books = books }) d)
unfolding seated
seated_fails place scene books d (Bad bad) e = rw e
seated_fails place scene books d Memory e = tt

pub seat_more : (values : List Value) (start : Scene) (place : ℕ) (scene next : Scene) (books : List Book) (value : Value) (book : Book) → AreReadTo values start place scene books → place < length values → value ≡ get_or values place value
    → seat place scene (view value) ≡ Ok (book, next) → IsFreshAt place book → kept next ≡ kept scene → AreReadTo values start (place + 1) next (books ++ book ∷ [])
seat_more values start place scene next books value book before lt is ok fresh stays =
    let e : place ≡ 0 + length books = omega (arith, before.count) in record {
      read = read_more seated (λ w. kept w.scene) values (record { scene = start; books = [] }) place (record { scene = scene; books = books }) (record { scene = next; books = books ++ book ∷ [] }) value before.read lt is (seated_is place scene next books book (view value) ok) stays;
      count = count_more books book place before.count;
      fresh = fresh_from 0 books book before.fresh (subst (λ (n : ℕ). IsFreshAt n book) e fresh);
    }

-- ---- how many they are

-- the seats that are read are those that were counted
pub counted_seats : (d : Data) (values : List Value) (books : List Book) → field (codes "seats") (list 1 33) d ≡ Ok (items_view values) → length books ≡ length values → 1 ≤ length values → players_in d + 1 ≡ length books
counted_seats d values books e same least = at_key (get (codes "seats") d) e
  where
    count : (c : Option Items) → under (codes "seats") (needed Range c) ≡ Ok (items_view values) → players_among c + 1 ≡ length books
    count None h = absurd cc
    count (Some items) h =
        let is : items ≡ items_view values = cc in
        let len : items_len items ≡ length values = ap items_len is ∙ items_len_view values in
        omega (arith, len, same, least)

    at_list : (o : Option Items) → under (codes "seats") (needed Kind o >>= λ items. needed Range (counted 1 33 items)) ≡ Ok (items_view values) → players_among (option_and_then (counted 1 33) o) + 1 ≡ length books
    at_list None h = absurd cc
    at_list (Some items) h = count (counted 1 33 items) h

    at_key : (found : Option Data) → under (codes "seats") (needed Missing found >>= list 1 33) ≡ Ok (items_view values) → players_among (option_and_then (list_from 1 33) found) + 1 ≡ length books
    at_key None h = absurd cc
    at_key (Some v) h = at_list (as_array v) h
