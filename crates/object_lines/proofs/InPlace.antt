-- A loop that changes each member of a list in its place.
use Rattle.std.proofs.Common.{◌≡◌, ℕ, ◌+◌, ◌<◌, List, [], ◌∷◌, ◌++◌, length, take, drop, set, get_or, map, sym, ap, ◌∙◌, add-zero, arith}
use Rattle.std.proofs.lemmas.List.{take_more, take_more_set, map-append, get_or-drop, drop-set-lt, drop-drop}

pub record IsDone {X Y : Type 0} (view : X → Y) (step : Y → Y) (xs ys : List X) (i : ℕ) : Type 0 where
  pub done : map view (take i xs) ≡ map step (map view (take i ys))
  pub left : drop i xs ≡ drop i ys

pub same_at : {X : Type 0} (xs ys : List X) (i : ℕ) (d : X) → drop i xs ≡ drop i ys → get_or xs i d ≡ get_or ys i d
same_at xs ys i d left =
    ap (λ n. get_or xs n d) (sym (add-zero i)) ∙ (sym (get_or-drop i xs 0 d) ∙ (ap (λ zs. get_or zs 0 d) left ∙ (get_or-drop i ys 0 d ∙ ap (λ n. get_or ys n d) (add-zero i))))

pub done_more : {X Y : Type 0} (view : X → Y) (step : Y → Y) (xs ys : List X) (i : ℕ) (y d : X) → i < length xs → i < length ys → IsDone view step xs ys i → view y ≡ step (view (get_or xs i d))
    → IsDone view step (set xs i y) ys (i + 1)
done_more view step xs ys i y d below within before now = record {
  done =
      ap (map view) (take_more_set xs i y below)
      ∙ (map-append view (take i xs) (y ∷ [])
      ∙ (ap (λ zs. zs ++ view y ∷ []) before.done
      ∙ (ap (λ z. map step (map view (take i ys)) ++ z ∷ []) (now ∙ ap (λ e. step (view e)) (same_at xs ys i d before.left))
      ∙ (sym (map-append step (map view (take i ys)) (view (get_or ys i d) ∷ []))
      ∙ (ap (map step) (sym (map-append view (take i ys) (get_or ys i d ∷ [])))
      ∙ ap (λ zs. map step (map view zs)) (sym (take_more ys i d within)))))));
  left =
      drop-set-lt (i + 1) xs i y (omega arith)
      ∙ (sym (drop-drop 1 i xs) ∙ (ap (drop 1) before.left ∙ drop-drop 1 i ys));
}
