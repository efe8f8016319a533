-- What a machine prints item by item.
use Rattle.std.proofs.Common.{◌≡◌, List, ℕ, [], ◌∷◌, ◌++◌, map, sym, ◌∙◌, ap, subst, append_assoc}
use Rattle.std.specs.List.{flat_map}
use Rattle.std.proofs.lemmas.Grind.{flat_map-append}
use Rattle.std.proofs.lemmas.List.Folds.{flat_map-map}
use Rattle.campaign_law.specs.Feeding.{MayFeedAll}
use Rattle.campaign_law.specs.Law.{bytes_of}
use Rattle.campaign_law.specs.Player.{Item, Machine, printed, after, run}

-- the machine that the first item made is fed the rest
pub feed_next : (m m' : Machine) (item : Item) (items all : List Item) → all ≡ item ∷ items → m' ≡ after m item → MayFeedAll m all → MayFeedAll m' items
feed_next m m' item items all is next feed = subst (λ x. MayFeedAll x items) (sym next) (subst (MayFeedAll m) is feed).1

-- the bytes before an item, those that it prints, and those that the rest prints
printed_next : (m : Machine) (item : Item) (items : List Item) (before whole : List ℕ) (lines : List (List ℕ)) → lines ≡ map (λ line. line ++ 10 ∷ []) (printed m item)
    → before ++ bytes_of (run m (item ∷ items)) ≡ whole → (before ++ flat_map (λ text. text) lines) ++ bytes_of (run (after m item) items) ≡ whole
printed_next m item items before whole lines is all =
    append_assoc before (flat_map (λ text. text) lines) (bytes_of (run (after m item) items))
    ∙ ap (λ bytes. before ++ (bytes ++ bytes_of (run (after m item) items))) (ap (flat_map (λ text. text)) is ∙ flat_map-map (λ text. text) (λ line. line ++ 10 ∷ []) (printed m item))
    ∙ ap (λ bytes. before ++ bytes) (sym (flat_map-append (λ line. line ++ 10 ∷ []) (printed m item) (run (after m item) items)))
    ∙ all

pub printed_on : (m m' : Machine) (item : Item) (items all : List Item) (before now whole : List ℕ) (lines : List (List ℕ)) → all ≡ item ∷ items → m' ≡ after m item → now ≡ before ++ flat_map (λ text. text) lines → lines ≡ map (λ line. line ++ 10 ∷ []) (printed m item)
    → before ++ bytes_of (run m all) ≡ whole → now ++ bytes_of (run m' items) ≡ whole
printed_on m m' item items all before now whole lines is next added told to =
    (λ i. added i ++ bytes_of (run (next i) items))
    ∙ printed_next m item items before whole lines told (ap (λ xs. before ++ bytes_of (run m xs)) (sym is) ∙ to)
