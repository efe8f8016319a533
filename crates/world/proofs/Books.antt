-- Books after one of them is changed.
use Rattle.std.proofs.Common.{◌≡◌, ℕ, zero, suc, ◌+◌, ◌<◌, true, List, [], ◌∷◌, length, get_or, set, Some, Result, Ok, Err, refl, ap, subst, sym, ◌∙◌, arith}
use Rattle.std.specs.Prelude.{OnOk, OnErr, slice_get}
use Rattle.seats.specs.Book.{Book, tag_used, with_tag}
use Rattle.world.specs.Scene.{Scene}
use Rattle.world.specs.World.{World, IsWorld, AreNumberedFrom, changed_at, with_book}
use Rattle.world.proofs.Makers.{are_used-changed, used_still}

-- what is written at a place, where it is f of what stood there
set_changed : (f : Book → Book) (books : List Book) (k : ℕ) (d : Book) → k < length books → set books k (f (get_or books k d)) ≡ changed_at k f books
set_changed f [] k d low = absurd (omega arith)
set_changed f (book ∷ books) zero d low = refl
set_changed f (book ∷ books) (suc k) d low = ap (λ rest. book ∷ rest) (set_changed f books k d (omega arith))

length-changed : (f : Book → Book) (books : List Book) (k : ℕ) → length (changed_at k f books) ≡ length books
length-changed f [] k = refl
length-changed f (book ∷ books) zero = refl
length-changed f (book ∷ books) (suc k) = ap suc (length-changed f books k)

-- a change of a book that keeps whose it is, and no tag of which is lost
pub record KeepsBook (f : Book → Book) : Type 0 where
  pub seat : (book : Book) → (f book).seat ≡ book.seat
  pub tags : (book : Book) (tag : List ℕ) → tag_used book.tags tag ≡ true → tag_used (f book).tags tag ≡ true

-- one that keeps all its tags
pub keeps_all : (f : Book → Book) → ((book : Book) → (f book).seat ≡ book.seat) → ((book : Book) → (f book).tags ≡ book.tags) → KeepsBook f
keeps_all f seat tags = record { seat = seat; tags = λ book tag h. subst (λ (ts : List (List ℕ)). tag_used ts tag ≡ true) (sym (tags book)) h }

pub keeps_with_tag : (tag : List ℕ) → KeepsBook (λ book. with_tag book tag)
keeps_with_tag tag = record { seat = λ book. refl; tags = λ book other h. used_still book.tags tag other h }

numbered-changed : (f : Book → Book) → ((book : Book) → (f book).seat ≡ book.seat) → (books : List Book) (from k : ℕ) → AreNumberedFrom from books → AreNumberedFrom from (changed_at k f books)
numbered-changed f keeps [] from k h = tt
numbered-changed f keeps (book ∷ books) from zero h = (keeps book ∙ h.0, h.1)
numbered-changed f keeps (book ∷ books) from (suc k) h = (h.0, numbered-changed f keeps books (from + 1) k h.1)

IsWorld-changed : (f : Book → Book) → KeepsBook f → (w : World) (k : ℕ) → IsWorld w → IsWorld (with_book k f w)
IsWorld-changed f keeps w k is =
    let same : length (changed_at k f w.books) ≡ length w.books = length-changed f w.books k in
    record {
      least = omega (arith, is.least);
      most = omega (arith, is.most);
      numbered = numbered-changed f keeps.seat w.books 0 k is.numbered;
      players = is.players ∙ sym same;
      tags = are_used-changed f keeps.tags w.books k w.scene.tokens is.tags;
    }

-- ---- what the code reads and writes: the book at the place that is the seat's number

book_at : (books : List Book) (k : ℕ) (b : Book) → k < length books → b ≡ get_or books k b → slice_get books k ≡ Some b
book_at [] k b low is = absurd (omega arith)
book_at (book ∷ books) zero b low is = ap Some (sym is)
book_at (book ∷ books) (suc k) b low is = book_at books k b (omega arith) is

-- a book of the world as it was, at a place in the vector that holds its books
module _ (scene : Scene) (books : List Book) (now : World) (seat place : ℕ) (b : Book) (view : (let w : World = record { scene = scene; books = books } in w) ≡ now) (at : place ≡ seat) (there : seat < length now.books) (is : b ≡ get_or books place b) where
  low : place < length books
  low = let same : length books ≡ length now.books = ap (λ (w : World). length w.books) view in omega arith

  pub is_found : slice_get now.books seat ≡ Some b
  is_found = sym (ap (λ (w : World). slice_get w.books seat) view) ∙ sym (ap (slice_get books) at) ∙ book_at books place b low is

  stored : (f : Book → Book) (u : Book) → u ≡ f b → set books place u ≡ changed_at place f books
  stored f u new = ap (set books place) (new ∙ ap f is) ∙ set_changed f books place b low

  pub is_changed : (f : Book → Book) (u : Book) → u ≡ f b → (let w : World = record { scene = scene; books = set books place u } in w) ≡ with_book seat f now
  is_changed f u new =
      ap (λ (list : List Book). (let w : World = record { scene = scene; books = list } in w)) (stored f u new ∙ ap (λ (k : ℕ). changed_at k f books) at) ∙ ap (with_book seat f) view

  pub changed_if_ok : {V : Type 0} {E : Type 0} (result : Result V E) (f : Book → Book) (u : Book) → OnOk result (u ≡ f b) → OnOk result ((let w : World = record { scene = scene; books = set books place u } in w) ≡ with_book seat f now)
  changed_if_ok (Ok x) f u ok = is_changed f u ok
  changed_if_ok (Err x) f u ok = tt

  pub IsWorld-stored : (f : Book → Book) → KeepsBook f → (u : Book) → u ≡ f b → IsWorld (record { scene = scene; books = books }) → IsWorld (record { scene = scene; books = set books place u })
  IsWorld-stored f keeps u new whole =
      subst (λ (list : List Book). IsWorld (record { scene = scene; books = list })) (sym (stored f u new)) (IsWorld-changed f keeps (record { scene = scene; books = books }) place whole)

  pub IsWorld-if_ok : {V : Type 0} {E : Type 0} (result : Result V E) (f : Book → Book) → KeepsBook f → (u : Book) → OnOk result (u ≡ f b) → OnErr result (u ≡ b)
      → IsWorld (record { scene = scene; books = books }) → IsWorld (record { scene = scene; books = set books place u })
  IsWorld-if_ok (Ok x) f keeps u ok err whole = IsWorld-stored f keeps u ok whole
  IsWorld-if_ok (Err x) f keeps u ok err whole = IsWorld-stored (λ book. book) (keeps_all (λ book. book) (λ book. refl) (λ book. refl)) u err whole
