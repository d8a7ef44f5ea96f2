-- What taking, freeing and painting one slot change in the words, place by place. Assumes nothing.
use Rattle.std.specs.Prelude.{◌≡◌, ◌⊎◌, ◌≢◌, length}
use Rattle.std.proofs.Math.Path.{ap}
use Rattle.std.proofs.Common.{◌∙◌, inl, inr, ⊎_elim}
use mathlib.Core.List.{List, [], ◌∷◌}
use Prim.Native.Nat.{ℕ, ◌+◌, ◌-◌, ◌*◌, ◌%◌, ◌^◌, ◌≤◌, ◌<◌}
use native.Mathlib.Omega.{arith}
use Rattle.base.specs.Words.{at, clear, more}
use Rattle.base.specs.Heap.{Heap}
use Rattle.arena.specs.Slots.{Room, row, set_colour, gen, link, head, extent, fresh, count, emptied, chained, free_slot, popped, opened}
use Rattle.arena.specs.declared.Arena.{Arena}
use Rattle.arena_laws.specs.Words.{le_or_lt, puts, puts_length, puts_far, puts_at, clear_length, clear_out}

-- Place x is no word of the arena's header, none of slot i's colour, generation, link and extent, and none of e words of its body.
pub record Elsewhere (a : Arena) (i e x : ℕ) : Type 0 where
  pub head : x ≢ a.top
  pub fresh : x ≢ a.top + 1
  pub count : x ≢ a.top + 2
  pub colour : x ≢ a.base + i
  pub gen : x ≢ a.base + a.slots + i
  pub link : x ≢ a.base + 2 * a.slots + i
  pub extent : x ≢ a.base + 3 * a.slots + i
  pub body : (x < a.bodies + i * a.stride) ⊎ (a.bodies + i * a.stride + e ≤ x)

-- Place x is no word of the arena: not of its header, of the cells of its slots or of their bodies.
pub record Outside (a : Arena) (x : ℕ) : Type 0 where
  pub header : (x < a.top) ⊎ (a.top + 3 ≤ x)
  pub cells : (x < a.base) ⊎ (a.base + 4 * a.slots ≤ x)
  pub bodies : (x < a.bodies) ⊎ (a.bodies + a.slots * a.stride ≤ x)

-- so it is elsewhere than any slot's words
pub outside_elsewhere : (a : Arena) (i e x : ℕ) → i < a.slots → e ≤ a.stride → Outside a x → Elsewhere a i e x
outside_elsewhere a i e x h l o = record {
  head = ⊎_elim (λ p. omega arith) (λ p. omega arith) o.header;
  fresh = ⊎_elim (λ p. omega arith) (λ p. omega arith) o.header;
  count = ⊎_elim (λ p. omega arith) (λ p. omega arith) o.header;
  colour = ⊎_elim (λ p. omega arith) (λ p. omega arith) o.cells;
  gen = ⊎_elim (λ p. omega arith) (λ p. omega arith) o.cells;
  link = ⊎_elim (λ p. omega arith) (λ p. omega arith) o.cells;
  extent = ⊎_elim (λ p. omega arith) (λ p. omega arith) o.cells;
  body = ⊎_elim (λ p. inl (omega arith)) (λ p. inr (omega (arith, row a.stride h))) o.bodies;
}

-- two rows of s places have none in common
pub rows_apart : (i j k s : ℕ) → j ≢ i → k < s → (j * s + k < i * s) ⊎ (i * s + s ≤ j * s + k)
rows_apart i j k s n l = ⊎_elim (λ p. inr (omega (arith, row {i = i} {n = j} s (omega arith)))) (λ p. inl (omega (arith, row {i = j} {n = i} s p))) (le_or_lt i j)

-- What stands in the header, and for one slot.
pub record Cells : Type 0 where
  pub head : ℕ
  pub fresh : ℕ
  pub count : ℕ
  pub colour : ℕ
  pub gen : ℕ
  pub link : ℕ
  pub extent : ℕ

-- The words w became w': slot i and the header have these cells, and nothing else changed but e words of the slot's body.
pub record Becomes (a : Arena) (i e : ℕ) (w w' : List ℕ) (c : Cells) : Type 0 where
  pub long : length w' ≡ length w
  pub far : (x : ℕ) → Elsewhere a i e x → at w' x ≡ at w x
  pub head : head a w' ≡ c.head
  pub fresh : fresh a w' ≡ c.fresh
  pub count : count a w' ≡ c.count
  pub colour : at w' (a.base + i) ≡ c.colour
  pub gen : gen a i w' ≡ c.gen
  pub link : link a i w' ≡ c.link
  pub extent : at w' (a.base + 3 * a.slots + i) ≡ c.extent

-- the places still fit
pub room_after : {a : Arena} {w w' : List ℕ} → length w' ≡ length w → Room a w → Room a w'
room_after h r = record { slots = r.slots; apart = r.apart; below = r.below; fits = omega arith }

module _ (a : Arena) (i : ℕ) (w : List ℕ) (r : Room a w) (h : i < a.slots) where
  abbrev hd : ℕ
  hd = a.top

  abbrev fr : ℕ
  fr = a.top + 1

  abbrev ct : ℕ
  ct = a.top + 2

  abbrev cl : ℕ
  cl = a.base + i

  abbrev gn : ℕ
  gn = a.base + a.slots + i

  abbrev lk : ℕ
  lk = a.base + 2 * a.slots + i

  abbrev ex : ℕ
  ex = a.base + 3 * a.slots + i

  -- a slot taken from the head of the chain
  pub popped_is : (c n : ℕ) →
      Becomes a i 0 w (popped a i c n w)
      (record { head = link a i w; fresh = fresh a w; count = more (count a w); colour = c; gen = gen a i w; link = 0; extent = n })
  unfolding popped
  popped_is c n =
      let cs : List (ℕ × ℕ) = (ex, n) ∷ (cl, c) ∷ (lk, 0) ∷ (hd, link a i w) ∷ [] in
      let k : ℕ = more (count a (puts cs w)) in
      let all : List (ℕ × ℕ) = (ct, k) ∷ cs in
      record {
        long = puts_length all w;
        far = λ x o. puts_far all w x (o.count, (o.extent, (o.colour, (o.link, (o.head, tt)))));
        head = puts_at ((ct, k) ∷ (ex, n) ∷ (cl, c) ∷ (lk, 0) ∷ []) hd (link a i w) [] w (omega arith, (omega arith, (omega arith, (omega arith, tt)))) (omega arith);
        fresh = puts_far all w fr (omega arith, (omega arith, (omega arith, (omega arith, (omega arith, tt)))));
        count = puts_at [] ct k cs w tt (omega arith) ∙ ap (λ (x : ℕ). more x) (puts_far cs w ct (omega arith, (omega arith, (omega arith, (omega arith, tt)))));
        colour = puts_at ((ct, k) ∷ (ex, n) ∷ []) cl c ((lk, 0) ∷ (hd, link a i w) ∷ []) w (omega arith, (omega arith, tt)) (omega arith);
        gen = puts_far all w gn (omega arith, (omega arith, (omega arith, (omega arith, (omega arith, tt)))));
        link = puts_at ((ct, k) ∷ (ex, n) ∷ (cl, c) ∷ []) lk 0 ((hd, link a i w) ∷ []) w (omega arith, (omega arith, (omega arith, tt))) (omega arith);
        extent = puts_at ((ct, k) ∷ []) ex n ((cl, c) ∷ (lk, 0) ∷ (hd, link a i w) ∷ []) w (omega arith, tt) (omega arith);
      }

  -- a slot taken at the fresh index
  pub opened_is : (c n : ℕ) →
      Becomes a i 0 w (opened a i c n w)
      (record { head = head a w; fresh = i + 1; count = more (count a w); colour = c; gen = 0; link = link a i w; extent = n })
  unfolding opened
  opened_is c n =
      let cs : List (ℕ × ℕ) = (ex, n) ∷ (cl, c) ∷ (gn, 0) ∷ (fr, i + 1) ∷ [] in
      let k : ℕ = more (count a (puts cs w)) in
      let all : List (ℕ × ℕ) = (ct, k) ∷ cs in
      record {
        long = puts_length all w;
        far = λ x o. puts_far all w x (o.count, (o.extent, (o.colour, (o.gen, (o.fresh, tt)))));
        head = puts_far all w hd (omega arith, (omega arith, (omega arith, (omega arith, (omega arith, tt)))));
        fresh = puts_at ((ct, k) ∷ (ex, n) ∷ (cl, c) ∷ (gn, 0) ∷ []) fr (i + 1) [] w (omega arith, (omega arith, (omega arith, (omega arith, tt)))) (omega arith);
        count = puts_at [] ct k cs w tt (omega arith) ∙ ap (λ (x : ℕ). more x) (puts_far cs w ct (omega arith, (omega arith, (omega arith, (omega arith, tt)))));
        colour = puts_at ((ct, k) ∷ (ex, n) ∷ []) cl c ((gn, 0) ∷ (fr, i + 1) ∷ []) w (omega arith, (omega arith, tt)) (omega arith);
        gen = puts_at ((ct, k) ∷ (ex, n) ∷ (cl, c) ∷ []) gn 0 ((fr, i + 1) ∷ []) w (omega arith, (omega arith, (omega arith, tt))) (omega arith);
        link = puts_far all w lk (omega arith, (omega arith, (omega arith, (omega arith, (omega arith, tt)))));
        extent = puts_at ((ct, k) ∷ []) ex n ((cl, c) ∷ (gn, 0) ∷ (fr, i + 1) ∷ []) w (omega arith, tt) (omega arith);
      }

  -- a slot painted
  pub painted_is : (c : ℕ) →
      Becomes a i 0 w (set_colour a i c w)
      (record { head = head a w; fresh = fresh a w; count = count a w; colour = c; gen = gen a i w; link = link a i w; extent = at w (a.base + 3 * a.slots + i) })
  painted_is c =
      let all : List (ℕ × ℕ) = (cl, c) ∷ [] in
      record {
        long = puts_length all w;
        far = λ x o. puts_far all w x (o.colour, tt);
        head = puts_far all w hd (omega arith, tt);
        fresh = puts_far all w fr (omega arith, tt);
        count = puts_far all w ct (omega arith, tt);
        colour = puts_at [] cl c [] w tt (omega arith);
        gen = puts_far all w gn (omega arith, tt);
        link = puts_far all w lk (omega arith, tt);
        extent = puts_far all w ex (omega arith, tt);
      }

-- what freeing puts into words v whose body is zeroed already
abbrev pub free_cells : Arena → ℕ → List ℕ → List (ℕ × ℕ)
free_cells a i v =
    let c₁ : List (ℕ × ℕ) = (a.base + 3 * a.slots + i, 0) ∷ [] in
    let c₃ : List (ℕ × ℕ) = (a.base + i, 0) ∷ (a.base + a.slots + i, (gen a i (puts c₁ v) + 1) % 2 ^ 32) ∷ c₁ in
    let c₅ : List (ℕ × ℕ) = (a.top, i + 1) ∷ (a.base + 2 * a.slots + i, head a (puts c₃ v)) ∷ c₃ in
    (a.top + 2, count a (puts c₅ v) - 1) ∷ c₅

-- a slot freed
pub freed_is : (a : Arena) (i : ℕ) (h : Heap) → Room a h.words → i < a.slots →
    Becomes a i (extent a i h.words) h.words (free_slot a i h).words
    (record {
      head = i + 1;
      fresh = fresh a h.words;
      count = count a h.words - 1;
      colour = 0;
      gen = (gen a i h.words + 1) % 2 ^ 32;
      link = head a h.words;
      extent = 0;
    })
unfolding free_slot chained emptied
freed_is a i h r l =
    let w : List ℕ = h.words in
    let p : ℕ = a.bodies + i * a.stride in
    let n : ℕ = extent a i w in
    let v : List ℕ = clear p n w in
    let vl : length v ≡ length w = clear_length p n w in
    let out : (x : ℕ) → (x < p) ⊎ (p + n ≤ x) → at v x ≡ at w x = λ x o. clear_out p n w x o in
    let hd : ℕ = a.top in
    let fr : ℕ = a.top + 1 in
    let ct : ℕ = a.top + 2 in
    let cl : ℕ = a.base + i in
    let gn : ℕ = a.base + a.slots + i in
    let lk : ℕ = a.base + 2 * a.slots + i in
    let ex : ℕ = a.base + 3 * a.slots + i in
    let c₁ : List (ℕ × ℕ) = (ex, 0) ∷ [] in
    let g : ℕ = (gen a i (puts c₁ v) + 1) % 2 ^ 32 in
    let c₃ : List (ℕ × ℕ) = (cl, 0) ∷ (gn, g) ∷ c₁ in
    let x : ℕ = head a (puts c₃ v) in
    let c₅ : List (ℕ × ℕ) = (hd, i + 1) ∷ (lk, x) ∷ c₃ in
    let k : ℕ = count a (puts c₅ v) - 1 in
    let all : List (ℕ × ℕ) = free_cells a i v in
    record {
      long = puts_length all v ∙ vl;
      far = λ y o. puts_far all v y (o.count, (o.head, (o.link, (o.colour, (o.gen, (o.extent, tt)))))) ∙ out y o.body;
      head = puts_at ((ct, k) ∷ []) hd (i + 1) ((lk, x) ∷ c₃) v (omega arith, tt) (omega arith);
      fresh = puts_far all v fr (omega arith, (omega arith, (omega arith, (omega arith, (omega arith, (omega arith, tt)))))) ∙ out fr (inl (omega arith));
      count = puts_at [] ct k c₅ v tt (omega arith)
          ∙ ap (λ (y : ℕ). y - 1) (puts_far c₅ v ct (omega arith, (omega arith, (omega arith, (omega arith, (omega arith, tt))))) ∙ out ct (inl (omega arith)));
      colour = puts_at ((ct, k) ∷ (hd, i + 1) ∷ (lk, x) ∷ []) cl 0 ((gn, g) ∷ c₁) v (omega arith, (omega arith, (omega arith, tt))) (omega arith);
      gen = puts_at ((ct, k) ∷ (hd, i + 1) ∷ (lk, x) ∷ (cl, 0) ∷ []) gn g c₁ v (omega arith, (omega arith, (omega arith, (omega arith, tt)))) (omega arith)
          ∙ ap (λ (y : ℕ). (y + 1) % 2 ^ 32) (puts_far c₁ v gn (omega arith, tt) ∙ out gn (inl (omega arith)));
      link = puts_at ((ct, k) ∷ (hd, i + 1) ∷ []) lk x c₃ v (omega arith, (omega arith, tt)) (omega arith)
          ∙ puts_far c₃ v hd (omega arith, (omega arith, (omega arith, tt))) ∙ out hd (inl (omega arith));
      extent = puts_at ((ct, k) ∷ (hd, i + 1) ∷ (lk, x) ∷ (cl, 0) ∷ (gn, g) ∷ []) ex 0 [] v (omega arith, (omega arith, (omega arith, (omega arith, (omega arith, tt))))) (omega arith);
    }
