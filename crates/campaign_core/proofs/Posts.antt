-- What is made for a seat, put in, is its post after the entry.
use Rattle.std.proofs.Common.{ltb, ◌≡◌, ◌≤◌, ◌<◌, ◌≢◌, ℕ, zero, suc, ◌+◌, ◌++◌, Bool, true, false, cond, eqb, List, [], ◌∷◌, length, map, Some, None, refl, sym, ◌∙◌, ap, subst, arith, zero-add, eqb-true, eq-eqb, length-append, get_or}
use Rattle.std.specs.Prelude.{Option, option_map, slice_get}
use Rattle.std.proofs.lemmas.Option.{slice_get-map, slice_get_within, slice_get-get_or}
use Rattle.std.proofs.lemmas.Bool.Decides.{nat_tests}
use Rattle.seats.specs.Book.{Book}
use Rattle.views.specs.declared.view.View.{View}
use Rattle.campaign_law.specs.Seat.{Seat, settled}
use Rattle.campaign_law.specs.declared.entry.Entry.{Entry}
use Rattle.campaign_law.specs.Outcome.{Outcome, seat_of}
use Rattle.campaign_law.specs.SessionLaws.{lines_per_entry}
use Rattle.campaign_law.specs.World.{World, asked_of, changed, queued_lines, outcome_of, seat_at, seat_by, report_of, mapped_from}
use Rattle.campaign_law.specs.State.{Post, post_by, mail_after}
use Rattle.campaign_law.proofs.Lists.{mapped_from-same}
use Rattle.campaign_law.proofs.Messages.{outcome_few}
use Rattle.campaign_law.proofs.Queues.{lines_few}
use Rattle.campaign_core.specs.declared.state.NextPost.{NextPost}
use Rattle.campaign_core.specs.Places.{next_seat, moved, put_in, made_in, next_at, put_all}
use Rattle.campaign_core.specs.Steps.{with_book}
use Rattle.campaign_core.specs.Sound.{IsSound, QueuesFew}
use Rattle.campaign_core.proofs.Leaving.{rests}

not_before : (a n : ℕ) → a ≡ n → ltb a n ≡ false
not_before a n h = grind (arith, nat_tests)

before_next : (a n : ℕ) → a ≡ n → ltb a (n + 1) ≡ true
before_next a n h = grind (arith, nat_tests)

none_before : (a : ℕ) → ltb a 0 ≡ false
none_before a = grind (arith, nat_tests)

same_before : (a n : ℕ) → eqb a n ≡ false → ltb a n ≡ ltb a (n + 1)
same_before a n h = grind (arith, nat_tests)

-- ---- one seat

seat_is : (o : Outcome) (acts : Bool) (s : Seat) (n : NextPost) (count : ℕ) → n.book ≡ cond acts o.book None → n.queued ≡ s.queued + count → n.taken ≡ (changed o acts s).taken → next_seat n s ≡ settled count (changed o acts s)
seat_is o true s n count book queued taken = λ i. next_seat (record n { book = book i; queued = queued i; taken = taken i }) s
seat_is o false s n count book queued taken = λ i. next_seat (record n { book = book i; queued = queued i; taken = taken i }) s

-- where something was made
pub some_is : (seat : ℕ) (acts : Bool) (o : Outcome) (v v' : View) (post : Post) (n : NextPost) → n.book ≡ cond acts o.book None → n.queued ≡ post.seat.queued + length n.lines
    → n.taken ≡ (changed o acts post.seat).taken → n.lines ≡ queued_lines seat acts (Some post.seat) o v v' → moved n post ≡ post_by seat acts o v v' post
some_is seat acts o v v' post n book queued taken lines =
    let next : next_seat n post.seat ≡ seat_by seat acts o v v' post.seat = seat_is o acts post.seat n (length n.lines) book queued taken ∙ ap (λ ls. settled (length ls) (changed o acts post.seat)) lines in
    λ i. record { seat = next i; mail = mail_after post.seat (next i) (lines i) post.mail }

-- where nothing was made
pub none_is : (seat : ℕ) (acts : Bool) (o : Outcome) (v v' : View) (post : Post) → IsSound post → acts ≡ false → queued_lines seat acts (Some post.seat) o v v' ≡ [] → post ≡ post_by seat acts o v v' post
none_is seat true o v v' post sound idle none = cc
none_is seat false o v v' post sound idle none = sym (rests seat o v v' post sound none)

own_cond : (acts : Bool) (book : Option Book) → cond acts book None ≡ cond acts (cond acts book None) None
own_cond true book = refl
own_cond false book = refl

taken_same : (acts : Bool) (o : Outcome) (book : Option Book) (s : Seat) → (changed o acts s).taken ≡ (changed (record o { book = book }) acts s).taken
taken_same true o book s = refl
taken_same false o book s = refl

-- where something was made, with this book, if the seat acts
pub some_own : (seat : ℕ) (acts : Bool) (o : Outcome) (book : Option Book) (v v' : View) (post : Post) (n : NextPost) → n.book ≡ cond acts book None → n.queued ≡ post.seat.queued + length n.lines
    → n.taken ≡ (changed o acts post.seat).taken → n.lines ≡ queued_lines seat acts (Some post.seat) o v v' → moved n post ≡ post_by seat acts (with_book o (cond acts book None)) v v' post
unfolding with_book
some_own seat acts o book v v' post n is queued taken lines =
    some_is seat acts (record o { book = cond acts book None }) v v' post n (is ∙ own_cond acts book) queued (taken ∙ taken_same acts o (cond acts book None) post.seat) lines

-- where nothing was made
pub none_own : (seat : ℕ) (acts : Bool) (o : Outcome) (book : Option Book) (v v' : View) (post : Post) → IsSound post → acts ≡ false → queued_lines seat acts (Some post.seat) o v v' ≡ [] → post ≡ post_by seat acts (with_book o book) v v' post
unfolding with_book
none_own seat acts o book v v' post sound idle none = none_is seat acts (record o { book = book }) v v' post sound idle none

-- the book of the seat that acts is asked for it alone
pub own_post : (seat : ℕ) (acts : Bool) (o : Outcome) (own book : Option Book) (v v' : View) (post : Post) → own ≡ cond acts book None → post_by seat acts (with_book o own) v v' post ≡ post_by seat acts (with_book o book) v v' post
unfolding with_book
own_post seat true o own book v v' post is = ap (λ b. post_by seat true (with_book o b) v v' post) is
own_post seat false o own book v v' post is = refl

-- until its turn comes the book is there
abbrev pub book_left : ℕ → ℕ → Option Book → Option Book
book_left actor number book = cond (ltb actor number) None book

pub first_left : (actor : ℕ) (book : Option Book) → book ≡ book_left actor 0 book
first_left actor book = ap (λ b. cond b None book) (sym (none_before actor))

pub own_is : (actor number : ℕ) (acts : Bool) (own left book : Option Book) → eqb actor number ≡ acts → left ≡ book_left actor number book → own ≡ cond acts left None → own ≡ cond acts book None
own_is actor number true own left book at there is =
    is ∙ there ∙ ap (λ b. cond b None book) (not_before actor number (eqb-true actor number at))
own_is actor number false own left book at there is = is

pub still_left : (actor number : ℕ) (acts : Bool) (left after book : Option Book) → eqb actor number ≡ acts → left ≡ book_left actor number book → after ≡ cond acts None left → after ≡ book_left actor (number + 1) book
still_left actor number true left after book at there is = is ∙ sym (ap (λ b. cond b None book) (before_next actor number (eqb-true actor number at)))
still_left actor number false left after book at there is = is ∙ there ∙ ap (λ b. cond b None book) (same_before actor number at)

pub empty_items : {A : Type 0} (n : ℕ) (xs : List A) → eqb n 0 ≡ true → n ≡ length xs → xs ≡ []
empty_items n [] e h = refl
empty_items n (x ∷ xs) e h = let none : n ≡ 0 = eqb-true n 0 e in absurd (omega (arith, none, h))

-- an entry queues few lines
pub queues_few : (w : World) (e : Entry) (o : Outcome) (book : Option Book) → with_book o book ≡ outcome_of w e → QueuesFew o
unfolding with_book
queues_few w e o book is seat acts before v v' =
    subst (λ (x : Outcome). length (queued_lines seat acts before x v v') ≤ lines_per_entry) (sym is)
    (lines_few seat acts before (outcome_of w e) v v' (outcome_few (asked_of w (seat_of e)) (report_of w e) (seat_at w (seat_of e)) e))

-- ---- one after another

pub slice_get-end : {A : Type 0} (xs : List A) (y : A) → slice_get (xs ++ y ∷ []) (length xs) ≡ Some y
slice_get-end [] y = refl
slice_get-end (x ∷ xs) y = slice_get-end xs y

pub slice_get-front : {A : Type 0} (xs : List A) (y : A) (p : ℕ) → p < length xs → slice_get (xs ++ y ∷ []) p ≡ slice_get xs p
slice_get-front [] y p lt = absurd (omega arith)
slice_get-front (x ∷ xs) y zero lt = refl
slice_get-front (x ∷ xs) y (suc p) lt = slice_get-front xs y p (omega arith)

-- what was made for the first so many seats gives the posts f
pub AreMade : (ℕ → Post → Post) → List (Option NextPost) → ℕ → List Post → Type 0
AreMade f nexts count posts = (p : ℕ) (post : Post) → p < count → slice_get posts p ≡ Some post → put_in (next_at nexts p) post ≡ f p post

pub none_made : (f : ℕ → Post → Post) (posts : List Post) → AreMade f [] 0 posts
unfolding AreMade
none_made f posts p post lt at = absurd (omega arith)

pub one_more : (f : ℕ → Post → Post) (nexts nexts' : List (Option NextPost)) (count : ℕ) (posts : List Post) (made : Option NextPost) (post : Post) → length nexts ≡ count → slice_get posts count ≡ Some post
    → put_in made post ≡ f count post → nexts' ≡ nexts ++ made ∷ [] → AreMade f nexts count posts → AreMade f nexts' (count + 1) posts
unfolding AreMade
one_more f nexts nexts' count posts made post long at is more before p other lt there = by_place (eqb p count) refl
  where
    by_place : (same : Bool) → eqb p count ≡ same → put_in (next_at nexts' p) other ≡ f p other
    by_place true e =
        let here : p ≡ count = eqb-true p count e in
        let same : Some other ≡ Some post = sym there ∙ ap (slice_get posts) here ∙ at in
        let is_same : other ≡ post = cc in
        ap (λ ns. put_in (next_at ns p) other) more
        ∙ ap (λ o. put_in (made_in o) other) (ap (slice_get (nexts ++ made ∷ [])) (here ∙ sym long) ∙ slice_get-end nexts made)
        ∙ ap (put_in made) is_same ∙ is ∙ (λ i. f (sym here i) (sym is_same i))
    by_place false e =
        let apart : p ≢ count = λ q. (let no : true ≡ false = sym (eq-eqb p count q) ∙ e in cc) in
        let below : p < length nexts = omega (arith, lt, apart, long) in
        let below' : p < count = omega (arith, below, long) in
        ap (λ ns. put_in (next_at ns p) other) more ∙ ap (λ o. put_in (made_in o) other) (slice_get-front nexts made p below) ∙ before p other below' there

pub all_made : (f : ℕ → Post → Post) (nexts : List (Option NextPost)) (count : ℕ) (posts : List Post) → length posts ≤ count → AreMade f nexts count posts → put_all nexts posts ≡ mapped_from f 0 posts
unfolding AreMade
all_made f nexts count posts long made =
    mapped_from-same (λ p post. put_in (next_at nexts p) post) f 0 posts
    (λ i post at. subst (λ p. put_in (next_at nexts p) post ≡ f p post) (sym (zero-add i)) (let within = slice_get_within posts i post at in made i post (omega (arith, within, long)) at))

pub longer : (nexts nexts' : List (Option NextPost)) (count : ℕ) (made : Option NextPost) → length nexts ≡ count → nexts' ≡ nexts ++ made ∷ [] → length nexts' ≡ count + 1
longer nexts nexts' count made long more = let a = ap length more in let b = length-append nexts (made ∷ []) in omega (arith, a, b, long)

-- an item of a list that is gone through
pub item_at : {A B : Type 0} (f : A → B) (xs : List A) (i : ℕ) (x : A) → i < length xs → x ≡ get_or xs i x → slice_get (map f xs) i ≡ Some (f x)
item_at f xs i x lt is = slice_get-map f xs i ∙ ap (option_map f) (slice_get-get_or xs i x lt ∙ ap Some (sym is))
