-- Which items stand on a working list, after a push, a pop and a change elsewhere. Assumes nothing.
--     On, on_same, on_none             an item stands on a list; it does where the list's words stay; on an empty list none does
--     push_new, push_old, push_was     a push within the room: the new item, those before, and no other
--     pop_old, pop_was                 a pop: those that are left were there, and no other went but the last
use Rattle.std.specs.Prelude.{◌≡◌, refl, List as Words, ◌⊎◌, ◌≢◌, ℕ, min, ◌+◌, ◌-◌, ◌≤◌, ◌<◌, Option}
use Rattle.std.proofs.Common.{sym, ap, subst, ◌∙◌, inl, inr, arith}
use Rattle.std.proofs.Math.Decide.{dec_lt}
use Rattle.base.specs.Words.{at}
use Rattle.layout.specs.declared.List.{List}
use Rattle.lists.specs.declared.Item.{Item}
use Rattle.lists.specs.Lists.{RoomFor, item_in, length_of, place, item_at, push, taken}
use Rattle.lists.specs.Laws.{Apart}
use Rattle.lists.proofs.Laws.{item_three, item_found, stored_item, push_stored, push_length, push_full_length, push_items, taken_kept, pop_some, pop_length}
use Rattle.room_laws.specs.Frames.{OnList}

-- The item stands on the list.
abbrev pub On : List → Item → Words ℕ → Type 0
On b x u = (i : ℕ) × (i < length_of b u) × (item_in u (place b i) ≡ x)

module _ (b : List) where
  -- It does where the list's words are as they were.
  pub on_same : (x : Item) (u v : Words ℕ) → ((q : ℕ) → OnList b q → at v q ≡ at u q) → On b x u → On b x v
  on_same x u v h (i, f, e) = (
    i,
    subst (λ n. i < n) (sym (ap (λ (n : ℕ). min n b.room) (h b.count (inl refl)))) f,
    item_three (place b i) v u (h (place b i) (inr (omega arith, omega arith))) (h (place b i + 1) (inr (omega arith, omega arith))) (h (place b i + 2) (inr (omega arith, omega arith))) ∙ e,
  )

  -- On an empty list there is none.
  pub on_none : (x : Item) (u : Words ℕ) → length_of b u ≡ 0 → On b x u → ⊥
  on_none x u e (i, f, g) = none i (length_of b u) f e
    where
      none : (i n : ℕ) → i < n → n ≡ 0 → ⊥
      none i n f e = omega (arith, f, e)

  module _ (x : Item) (u : Words ℕ) (ok : RoomFor b u) where
    -- After a push within the room the item is there,
    pub push_new : length_of b u < b.room → On b x (push b x u)
    push_new h = (
      length_of b u,
      subst (λ n. length_of b u < n) (sym (push_length b x u ok h)) (next (length_of b u)),
      ap (λ (v : Words ℕ). item_in v (place b (length_of b u))) (push_stored b x u h) ∙ stored_item b (length_of b u) u ok h x,
    )
      where
        next : (n : ℕ) → n < n + 1
        next n = omega arith

    -- and so are those before;
    pub push_old : Apart b → (y : Item) → On b y u → On b y (push b x u)
    push_old a y (i, f, e) = (i, go (dec_lt (length_of b u) b.room), push_items b x u ok a i f ∙ e)
      where
        more : (i n m : ℕ) → i < n → m ≡ n + 1 → i < m
        more i n m f e = omega (arith, f, e)

        same : (i n m : ℕ) → i < n → m ≡ n → i < m
        same i n m f e = omega (arith, f, e)

        go : Dec (length_of b u < b.room) → i < length_of b (push b x u)
        go (yes h) = more i (length_of b u) (length_of b (push b x u)) f (push_length b x u ok h)
        go (no h) = same i (length_of b u) (length_of b (push b x u)) f (push_full_length b x u ok a (omega (arith, h)))

    -- no other is.
    pub push_was : Apart b → length_of b u < b.room → (y : Item) → On b y (push b x u) → On b y u ⊎ (y ≡ x)
    push_was a h y (i, f, e) = go (dec_lt i (length_of b u))
      where
        last : (i n m : ℕ) → i < m → m ≡ n + 1 → (i < n → ⊥) → i ≡ n
        last i n m f g h = omega (arith, f, g, h)

        go : Dec (i < length_of b u) → On b y u ⊎ (y ≡ x)
        go (yes g) = inl (i, g, sym (push_items b x u ok a i g) ∙ e)
        go (no g) =
            let k : i ≡ length_of b u = last i (length_of b u) (length_of b (push b x u)) f (push_length b x u ok h) g in
            inr (sym e ∙ ap (λ (n : ℕ). item_in (push b x u) (place b n)) k ∙ ap (λ (v : Words ℕ). item_in v (place b (length_of b u))) (push_stored b x u h) ∙ stored_item b (length_of b u) u ok h x)

  -- A pop of a list that has an item.
  module _ (u : Words ℕ) (ok : RoomFor b u) (d : length_of b u ≢ 0) where
    rest_length : length_of b (taken b (length_of b u - 1) u) ≡ length_of b u - 1
    rest_length = ap (λ (x : Option Item × Words ℕ). length_of b x.1) (sym (pop_some b u d)) ∙ pop_length b u ok

    rest_item : (i : ℕ) → i < length_of b u - 1 → item_in (taken b (length_of b u - 1) u) (place b i) ≡ item_in u (place b i)
    rest_item i h = item_three (place b i) (taken b (length_of b u - 1) u) u (kept (place b i) (omega arith) (omega (arith, h))) (kept (place b i + 1) (omega arith) (omega (arith, h))) (kept (place b i + 2) (omega arith) (omega (arith, h)))
      where
        kept : (q : ℕ) → b.base ≤ q → q < place b (length_of b u - 1) → at (taken b (length_of b u - 1) u) q ≡ at u q
        kept q f g = taken_kept b (length_of b u - 1) u ok (omega (arith, d)) q (λ e. omega (arith, e, f, ok.count)) (inl g)

    -- What is left was there,
    pub pop_old : (y : Item) → On b y (taken b (length_of b u - 1) u) → On b y u
    pop_old y (i, f, e) = (i, up i (length_of b (taken b (length_of b u - 1) u)) (length_of b u) f rest_length, sym (rest_item i (less i (length_of b (taken b (length_of b u - 1) u)) (length_of b u) f rest_length)) ∙ e)
      where
        up : (i m n : ℕ) → i < m → m ≡ n - 1 → i < n
        up i m n f e = omega (arith, f, e)

        less : (i m n : ℕ) → i < m → m ≡ n - 1 → i < n - 1
        less i m n f e = omega (arith, f, e)

    -- and nothing went but the last.
    pub pop_was : (y : Item) → On b y u → On b y (taken b (length_of b u - 1) u) ⊎ (y ≡ item_at b (length_of b u - 1) u)
    pop_was y (i, f, e) = go (dec_lt i (length_of b u - 1))
      where
        last : (i n : ℕ) → i < n → (i < n - 1 → ⊥) → i ≡ n - 1
        last i n f h = omega (arith, f, h)

        before : (n : ℕ) → n ≢ 0 → n - 1 < n
        before n d = omega (arith, d)

        go : Dec (i < length_of b u - 1) → On b y (taken b (length_of b u - 1) u) ⊎ (y ≡ item_at b (length_of b u - 1) u)
        go (yes g) = inl (i, subst (λ n. i < n) (sym rest_length) g, rest_item i g ∙ e)
        go (no g) =
            inr (sym e ∙ ap (λ (n : ℕ). item_in u (place b n)) (last i (length_of b u) f g) ∙ sym (item_found b (length_of b u - 1) u (before (length_of b u) d)))
