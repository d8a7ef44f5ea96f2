-- A new heap is as every heap between calls: at Pause, four slots in the current white, nothing else. The rows are those of
-- specs/News.antt. Assumes nothing.
--     row, puts_row, under, under_far     rows whose places are numbers, told by computing
--     new_is            the words of a new heap
--     field_word, string_word, table_word, colour_one     what stands at a place
--     new_state         the state
use Rattle.std.specs.Prelude.{◌≡◌, Bool, true, false, cond, ◌≢◌, List, [], ◌∷◌, ℕ, min, ◌+◌, ◌*◌, ◌≤◌, ◌<◌, eqb, ltb, length}
use Rattle.std.proofs.Math.Path.{refl}
use Rattle.std.proofs.Common.{sym, subst, ap, ◌∙◌, true≢false, inl, arith, get_or-set_same, get_or-set_other, eq-eqb, eqb-true, le-ltb}
use mathlib.Core.List.Memᴰ
use Rattle.std.proofs.Math.Decide.{ℕ_discrete, dec_lt}
use Rattle.base.specs.Ways.{le_yes}
use Rattle.base.specs.Words.{at, put, clear}
use Rattle.base.specs.Heap.{heap}
use Rattle.arena.specs.declared.Arena.{Arena}
use Rattle.arena.specs.Slots.{known, colour, head, fresh, count, used}
use Rattle.arena_laws.specs.Words.{puts, Far, puts_length, puts_far, puts_at, clear_length, clear_in}
use Rattle.arena_laws.specs.Counts.{tally, tally_all, colours, occupied_is}
use Rattle.arena_laws.specs.Chain.{WellFormed}
use Rattle.arena_laws.specs.Starts.{new_well_formed}
use Rattle.layout.specs.declared.Sizes.{Sizes}
use Rattle.layout.specs.declared.Lay.{Lay}
use Rattle.layout.specs.Sizes.{SizesOk}
use Rattle.layout.specs.Layout.{lay_of}
use Rattle.layout.specs.Places.{PROTOTYPES, TOP, OPENS, CI, DAMAGE, PHASE, WHITE, TOTAL, INTERRUPTED}
use Rattle.test1.specs.Test1.{sizes_at}
use Rattle.laid.specs.Laid.{Laid, laid_of}
use Rattle.newheap.specs.New.{arena_sizes, main_sizes, settings, counters, roots, two_marks, two_extents, lengths, table_sizes, names, tables, fields, new_words, mode_text, gc_text, new_bytes}
use Rattle.mark.specs.Words.{arena_of}
use Rattle.mark_laws.specs.Apart.{Apart, apart, Order, order, arena_before, arena_header, arena_lists}
use Rattle.room_laws.proofs.Queues.{queue_count}
use Rattle.sweep_laws.specs.Places.{Rows, rows, top_is}
use Rattle.sweep_laws.specs.Turns.{Arenas}
use Rattle.state_laws.specs.State.{State}

-- What stands at place p after the puts, where d stood before: where the places are numbers, it computes.
abbrev row : ℕ → List (ℕ × ℕ) → ℕ → ℕ
row p [] d = d
row p (c ∷ cs) d = cond (eqb p c.0) c.1 (row p cs d)

puts_row : (cs : List (ℕ × ℕ)) (w : List ℕ) (p : ℕ) → p < length w → at (puts cs w) p ≡ row p cs (at w p)
puts_row [] w p h = refl
puts_row (c ∷ cs) w p h = go (eqb p c.0) refl (puts_row cs w p h)
  where
    go : (b : Bool) → eqb p c.0 ≡ b → at (puts cs w) p ≡ row p cs (at w p) → at (put c.0 c.1 (puts cs w)) p ≡ cond b c.1 (row p cs (at w p))
    go true e rest =
        let q : p ≡ c.0 = eqb-true p c.0 e in
        ap (at (put c.0 c.1 (puts cs w))) q ∙ get_or-set_same (puts cs w) c.0 c.1 0 (omega (arith, h, q, puts_length cs w))
    go false e rest = get_or-set_other (puts cs w) c.0 p c.1 0 (λ z. true≢false (sym (eq-eqb p c.0 z) ∙ e)) ∙ rest

-- Whether all places are below n.
abbrev under : ℕ → List (ℕ × ℕ) → Bool
under n [] = true
under n (c ∷ cs) = cond (ltb c.0 n) (under n cs) false

under_far : (n x : ℕ) (cs : List (ℕ × ℕ)) → n ≤ x → under n cs ≡ true → Far x cs
under_far n x [] h e = tt
under_far n x (c ∷ cs) h e = go (ltb c.0 n) refl e (under_far n x cs h)
  where
    go : (b : Bool) → ltb c.0 n ≡ b → cond b (under n cs) false ≡ true → (under n cs ≡ true → Far x cs) → (x ≢ c.0) × Far x cs
    go true p q rest = ((λ z. true≢false (sym p ∙ le-ltb c.0 n (omega (arith, h, z)))), rest q)
    go false p q rest = absurd (true≢false (sym q))

module _ (l : Lay) where
  -- the definitions of specs/News.antt, for these
  abbrev field_rows : List (ℕ × ℕ)
  field_rows = Rattle.made_laws.specs.News.field_rows l

  abbrev slot_rows : Arena → ℕ → List (ℕ × ℕ)
  slot_rows = Rattle.made_laws.specs.News.slot_rows l

  abbrev name_rows : List (ℕ × ℕ)
  name_rows = Rattle.made_laws.specs.News.name_rows l

  abbrev table_rows : List (ℕ × ℕ)
  table_rows = Rattle.made_laws.specs.News.table_rows l

  -- The words of a new heap.
  new_is : (w : List ℕ) → new_words l w ≡ puts table_rows (puts name_rows (puts field_rows (clear 0 l.words w)))
  unfolding new_words tables names fields roots counters settings main_sizes arena_sizes table_sizes lengths two_extents two_marks
  new_is w = refl

  -- A place before an arena's cells, past them, or of the colour of a later slot is none of these.
  slot_before : (b : Arena) (n x : ℕ) → x < b.base → x ≢ b.top + 1 → x ≢ b.top + 2 → Far x (slot_rows b n)
  slot_before b n x h d e =
      ((λ z. omega (arith, z, h)), ((λ z. omega (arith, z, h)), ((λ z. omega (arith, z, h)), ((λ z. omega (arith, z, h)), (e, (d, tt))))))

  slot_after : (b : Arena) (n x : ℕ) → b.base + 4 * b.slots ≤ x → 91 ≤ b.base → b.top + 2 < 91 → 2 ≤ b.slots → Far x (slot_rows b n)
  slot_after b n x h f t m = (
    (λ z. omega (arith, z, h, m)),
    ((λ z. omega (arith, z, h, m)), ((λ z. omega (arith, z, h, m)), ((λ z. omega (arith, z, h, m)), ((λ z. omega (arith, z, h, f, t)), ((λ z. omega (arith, z, h, f, t)), tt))))),
  )

  slot_in_lem : (b : Arena) (n i : ℕ) → 2 ≤ i → i < b.slots → 91 ≤ b.base → b.top + 2 < 91 → Far (b.base + i) (slot_rows b n)
  slot_in_lem b n i h g f t = (
    (λ z. omega (arith, z, g)),
    ((λ z. omega (arith, z, g)), ((λ z. omega (arith, z, h)), ((λ z. omega (arith, z, h)), ((λ z. omega (arith, z, f, t)), ((λ z. omega (arith, z, f, t)), tt))))),
  )

  -- What the rows have.
  slot_words : (b : Arena) (n : ℕ) (u : List ℕ) → b.base + 4 * b.slots ≤ length u → 91 ≤ b.base → b.top + 2 < 91 → 2 ≤ b.slots
      → (at (puts (slot_rows b n) u) (b.top + 1) ≡ 2) × (at (puts (slot_rows b n) u) (b.top + 2) ≡ 2) × (at (puts (slot_rows b n) u) b.base ≡ 1) × (at (puts (slot_rows b n) u) (b.base + 1) ≡ 1)
  slot_words b n u long f t m =
      let x₁ : ℕ × ℕ = (b.base + 3 * b.slots + 1, n) in
      let x₂ : ℕ × ℕ = (b.base + 3 * b.slots, n) in
      let x₃ : ℕ × ℕ = (b.base + 1, 1) in
      let x₄ : ℕ × ℕ = (b.base, 1) in
      let x₅ : ℕ × ℕ = (b.top + 2, 2) in
      let x₆ : ℕ × ℕ = (b.top + 1, 2) in (
        puts_at (x₁ ∷ x₂ ∷ x₃ ∷ x₄ ∷ x₅ ∷ []) (b.top + 1) 2 [] u
            ((λ z. omega (arith, z, f, t)), ((λ z. omega (arith, z, f, t)), ((λ z. omega (arith, z, f, t)), ((λ z. omega (arith, z, f, t)), ((λ z. omega (arith, z)), tt)))))
            (omega (arith, long, f, t)),
        puts_at (x₁ ∷ x₂ ∷ x₃ ∷ x₄ ∷ []) (b.top + 2) 2 (x₆ ∷ []) u
            ((λ z. omega (arith, z, f, t)), ((λ z. omega (arith, z, f, t)), ((λ z. omega (arith, z, f, t)), ((λ z. omega (arith, z, f, t)), tt))))
            (omega (arith, long, f, t)),
        puts_at (x₁ ∷ x₂ ∷ x₃ ∷ []) b.base 1 (x₅ ∷ x₆ ∷ []) u ((λ z. omega (arith, z, m)), ((λ z. omega (arith, z, m)), ((λ z. omega (arith, z)), tt))) (omega (arith, long, m)),
        puts_at (x₁ ∷ x₂ ∷ []) (b.base + 1) 1 (x₄ ∷ x₅ ∷ x₆ ∷ []) u ((λ z. omega (arith, z, m)), ((λ z. omega (arith, z, m)), tt)) (omega (arith, long, m)),
      )

-- An arena whose first two slots are occupied, and no other, is well-formed; the chain is empty.
two_formed : (b : Arena) (u : List ℕ) → head b u ≡ 0 → fresh b u ≡ 2 → count b u ≡ 2 → 2 ≤ b.slots → colour b 0 u ≡ 1 → colour b 1 u ≡ 1
    → ((i : ℕ) → 2 ≤ i → i < b.slots → colour b i u ≡ 0) → WellFormed b u
two_formed b u h f c m e₀ e₁ z = record {
  within = omega (arith, f, m);
  free = [];
  chain = h;
  once = tt;
  is = λ i. ((λ k. absurd (Memᴰ.not-nil k)), (λ q. absurd (taken i (omega (arith, q.0, f)) q.1)));
  unused = λ i p q. z i (omega (arith, p, f)) q;
  counts = c ∙ sym (occupied_is b u ∙ ap (tally (colours b u) 0) two ∙ tally_all (colours b u) 2 0 (λ j p q. taken j q));
}
  where
    two : used b u ≡ 2
    two = omega (arith, f, m)

    taken : (i : ℕ) → i < 2 → colour b i u ≢ 0
    taken i p d = go (ℕ_discrete i 0)
      where
        go : Dec (i ≡ 0) → ⊥
        go (yes k) = omega (arith, sym (ap (λ (j : ℕ). colour b j u) k) ∙ d, e₀)
        go (no k) = let n : i ≡ 1 = omega (arith, k, p) in omega (arith, sym (ap (λ (j : ℕ). colour b j u) n) ∙ d, e₁)

module _ (l : Lay) (ok : Laid l) (a : Apart l) (r : Rows l) (w : List ℕ) (long : l.words ≤ length w) (s2 : 2 ≤ l.strings.slots) (t2 : 2 ≤ l.tables.slots) where
  abbrev o : Order l
  o = order l ok a

  abbrev C : List ℕ
  C = clear 0 l.words w

  abbrev F : List ℕ
  F = puts (field_rows l) (clear 0 l.words w)

  abbrev S : List ℕ
  S = puts (name_rows l) (puts (field_rows l) (clear 0 l.words w))

  abbrev N : List ℕ
  N = puts (table_rows l) (puts (name_rows l) (puts (field_rows l) (clear 0 l.words w)))

  C_long : length C ≡ length w
  C_long = clear_length 0 l.words w

  F_long : length F ≡ length w
  F_long = puts_length (field_rows l) C ∙ C_long

  S_long : length S ≡ length w
  S_long = puts_length (name_rows l) F ∙ F_long

  N_long : length N ≡ length w
  N_long = puts_length (table_rows l) S ∙ S_long

  cleared : (x : ℕ) → x < l.words → at C x ≡ 0
  cleared x h = let e : 0 + x ≡ x = omega arith in subst (λ (k : ℕ). at C k ≡ 0) e (clear_in 0 l.words w x (omega (arith, long)) h)

  -- a word below the boundary is no word of a record
  name_far : (x : ℕ) → x < l.boundary → Far x (slot_rows l l.strings 1) → Far x (name_rows l)
  name_far x h f = ((λ e. omega (arith, e, h, o.past_strings)), ((λ e. omega (arith, e, h, o.past_strings)), f))

  table_far : (x : ℕ) → x < l.boundary → Far x (slot_rows l l.tables 76) → Far x (table_rows l)
  table_far x h f = (
    (λ e. omega (arith, e, h, o.past_tables)),
    ((λ e. omega (arith, e, h, o.past_tables)), ((λ e. omega (arith, e, h, o.past_tables)), ((λ e. omega (arith, e, h, o.past_tables)), f))),
  )

  -- a word below the arenas' is none of the rows of slots
  low_names : (x : ℕ) → x < 73 → Far x (name_rows l)
  low_names x h = name_far x (omega (arith, h, o.header, a)) (slot_before l l.strings 1 x (omega (arith, h, o.header)) (λ e. omega (arith, e, h, o.top_strings)) (λ e. omega (arith, e, h, o.top_strings)))

  low_tables : (x : ℕ) → x < 73 → Far x (table_rows l)
  low_tables x h = table_far x (omega (arith, h, o.header, a)) (slot_before l l.tables 76 x (omega (arith, h, o.header, a)) (λ e. omega (arith, e, h, o.top_tables)) (λ e. omega (arith, e, h, o.top_tables)))

  low_word : (x : ℕ) → x < 73 → at N x ≡ at F x
  low_word x h = puts_far (table_rows l) S x (low_tables x h) ∙ puts_far (name_rows l) F x (low_names x h)

  -- a word of the header
  field_word : (p : ℕ) → p < 73 → at N p ≡ row p (field_rows l) 0
  field_word p h =
      low_word p h
      ∙ puts_row (field_rows l) C p (omega (arith, h, C_long, long, o.words, o.header, a))
      ∙ ap (row p (field_rows l)) (cleared p (omega (arith, h, o.words, o.header, a)))

  high_zero : (x : ℕ) → 64 ≤ x → x < l.words → at F x ≡ 0
  high_zero x f g = puts_far (field_rows l) C x (under_far 64 x (field_rows l) f refl) ∙ cleared x g

  -- a word of the header past the names' and tables', and the heads of their chains
  top_zero : (x : ℕ) → 73 ≤ x → x < 91 → x ≢ 74 → x ≢ 75 → x ≢ 77 → x ≢ 78 → at N x ≡ 0
  top_zero x f g c d e h =
      puts_far (table_rows l) S x
      (table_far x (omega (arith, g, o.header, a)) (slot_before l l.tables 76 x (omega (arith, g, o.header, a)) (λ z. e (omega (arith, z, o.top_tables))) (λ z. h (omega (arith, z, o.top_tables)))))
      ∙ puts_far (name_rows l) F x
      (name_far x (omega (arith, g, o.header, a)) (slot_before l l.strings 1 x (omega (arith, g, o.header)) (λ z. c (omega (arith, z, o.top_strings))) (λ z. d (omega (arith, z, o.top_strings)))))
      ∙ high_zero x (omega (arith, f)) (omega (arith, g, o.words, o.header, a))

  -- The strings: rows of the tables leave them.
  string_word : (x : ℕ) → x < l.tables.base → x ≢ 77 → x ≢ 78 → at N x ≡ at (puts (slot_rows l l.strings 1) F) x
  string_word x h d e =
      puts_far (table_rows l) S x (table_far x (omega (arith, h, a)) (slot_before l l.tables 76 x h (λ z. d (omega (arith, z, o.top_tables))) (λ z. e (omega (arith, z, o.top_tables)))))
      ∙ puts_far ((l.strings.bodies + 1, 4) ∷ (l.strings.bodies, 6) ∷ []) (puts (slot_rows l l.strings 1) F) x
      ((λ z. omega (arith, z, h, a, o.past_strings)), ((λ z. omega (arith, z, h, a, o.past_strings)), tt))

  strings_are : (at (puts (slot_rows l l.strings 1) F) (l.strings.top + 1) ≡ 2) × (at (puts (slot_rows l l.strings 1) F) (l.strings.top + 2) ≡ 2)
      × (at (puts (slot_rows l l.strings 1) F) l.strings.base ≡ 1) × (at (puts (slot_rows l l.strings 1) F) (l.strings.base + 1) ≡ 1)
  strings_are = slot_words l l.strings 1 F (omega (arith, F_long, long, a, o.words)) o.header (omega (arith, o.top_strings)) s2

  -- The tables.
  table_word : (x : ℕ) → x < l.boundary → at N x ≡ at (puts (slot_rows l l.tables 76) S) x
  table_word x h =
      puts_far ((l.tables.bodies + 580 + 3, 8) ∷ (l.tables.bodies + 580 + 2, 8) ∷ (l.tables.bodies + 3, 8) ∷ (l.tables.bodies + 2, 8) ∷ []) (puts (slot_rows l l.tables 76) S) x
      ((λ e. omega (arith, e, h, o.past_tables)), ((λ e. omega (arith, e, h, o.past_tables)), ((λ e. omega (arith, e, h, o.past_tables)), ((λ e. omega (arith, e, h, o.past_tables)), tt))))

  tables_are : (at (puts (slot_rows l l.tables 76) S) (l.tables.top + 1) ≡ 2) × (at (puts (slot_rows l l.tables 76) S) (l.tables.top + 2) ≡ 2)
      × (at (puts (slot_rows l l.tables 76) S) l.tables.base ≡ 1) × (at (puts (slot_rows l l.tables 76) S) (l.tables.base + 1) ≡ 1)
  tables_are = slot_words l l.tables 76 S (omega (arith, S_long, long, a, o.words)) (omega (arith, o.header, a)) (omega (arith, o.top_tables)) t2

  -- A colour is 0, but of the first two strings and tables, where it is 1.
  cell_zero : (x : ℕ) → 91 ≤ x → x < l.boundary → Far x (slot_rows l l.strings 1) → Far x (slot_rows l l.tables 76) → at N x ≡ 0
  cell_zero x f g c d = puts_far (table_rows l) S x (table_far x g d) ∙ puts_far (name_rows l) F x (name_far x g c) ∙ high_zero x (omega (arith, f)) (omega (arith, g, o.words))

  string_zero : (i : ℕ) → 2 ≤ i → i < l.strings.slots → at N (l.strings.base + i) ≡ 0
  string_zero i h g =
      cell_zero (l.strings.base + i) (omega (arith, o.header)) (omega (arith, g, a)) (slot_in_lem l l.strings 1 i h g o.header (omega (arith, o.top_strings)))
      (slot_before l l.tables 76 (l.strings.base + i) (omega (arith, g, a)) (λ z. omega (arith, z, o.header, o.top_tables)) (λ z. omega (arith, z, o.header, o.top_tables)))

  table_zero : (i : ℕ) → 2 ≤ i → i < l.tables.slots → at N (l.tables.base + i) ≡ 0
  table_zero i h g =
      cell_zero (l.tables.base + i) (omega (arith, o.header, a)) (omega (arith, g, a)) (slot_after l l.strings 1 (l.tables.base + i) (omega (arith, a)) o.header (omega (arith, o.top_strings)) s2)
      (slot_in_lem l l.tables 76 i h g (omega (arith, o.header, a)) (omega (arith, o.top_tables)))

  other_zero : (k i : ℕ) → 2 ≤ k → k ≤ 5 → i < (arena_of l k).slots → at N ((arena_of l k).base + i) ≡ 0
  other_zero k i f g h =
      let p = arena_before l o 1 k (omega (arith, f)) g in
      cell_zero ((arena_of l k).base + i) (omega (arith, arena_header l o k g)) (omega (arith, h, arena_lists l o k g, a))
      (slot_after l l.strings 1 ((arena_of l k).base + i) (omega (arith, p, a)) o.header (omega (arith, o.top_strings)) s2)
      (slot_after l l.tables 76 ((arena_of l k).base + i) (omega (arith, p)) (omega (arith, o.header, a)) (omega (arith, o.top_tables)) t2)

  one_known : known 1 ≡ 1
  one_known = sym (le_yes 1 4 1 0 1 (omega arith) refl)

  none_known : known 0 ≡ 0
  none_known = sym (le_yes 0 4 0 0 0 (omega arith) refl)

  string_first : (i : ℕ) → i < 2 → colour l.strings i N ≡ 1
  string_first i h = go (ℕ_discrete i 0)
    where
      go : Dec (i ≡ 0) → colour l.strings i N ≡ 1
      go (yes e) =
          let q : l.strings.base + i ≡ l.strings.base = omega (arith, e) in
          ap (λ (x : ℕ). known (at N x)) q ∙ ap (λ (x : ℕ). known x) (string_word l.strings.base (omega (arith, a, s2)) (λ z. omega (arith, z, o.header)) (λ z. omega (arith, z, o.header)) ∙ strings_are.2) ∙ one_known
      go (no d) =
          let q : l.strings.base + i ≡ l.strings.base + 1 = omega (arith, d, h) in
          ap (λ (x : ℕ). known (at N x)) q ∙ ap (λ (x : ℕ). known x) (string_word (l.strings.base + 1) (omega (arith, a, s2)) (λ z. omega (arith, z, o.header)) (λ z. omega (arith, z, o.header)) ∙ strings_are.3) ∙ one_known

  table_first : (i : ℕ) → i < 2 → colour l.tables i N ≡ 1
  table_first i h = go (ℕ_discrete i 0)
    where
      go : Dec (i ≡ 0) → colour l.tables i N ≡ 1
      go (yes e) =
          let q : l.tables.base + i ≡ l.tables.base = omega (arith, e) in
          ap (λ (x : ℕ). known (at N x)) q ∙ ap (λ (x : ℕ). known x) (table_word l.tables.base (omega (arith, a, t2)) ∙ tables_are.2) ∙ one_known
      go (no d) =
          let q : l.tables.base + i ≡ l.tables.base + 1 = omega (arith, d, h) in
          ap (λ (x : ℕ). known (at N x)) q ∙ ap (λ (x : ℕ). known x) (table_word (l.tables.base + 1) (omega (arith, a, t2)) ∙ tables_are.3) ∙ one_known

  -- The six arenas are well-formed.
  strings_formed : WellFormed l.strings N
  strings_formed =
      two_formed l.strings N
      (top_zero l.strings.top (omega (arith, o.top_strings)) (omega (arith, o.top_strings)) (λ z. omega (arith, z, o.top_strings)) (λ z. omega (arith, z, o.top_strings)) (λ z. omega (arith, z, o.top_strings)) (λ z. omega (arith, z, o.top_strings)))
      (string_word (l.strings.top + 1) (omega (arith, o.top_strings, o.header, a)) (λ z. omega (arith, z, o.top_strings)) (λ z. omega (arith, z, o.top_strings)) ∙ strings_are.0)
      (string_word (l.strings.top + 2) (omega (arith, o.top_strings, o.header, a)) (λ z. omega (arith, z, o.top_strings)) (λ z. omega (arith, z, o.top_strings)) ∙ strings_are.1)
      s2 (string_first 0 (omega arith)) (string_first 1 (omega arith)) (λ i f g. ap (λ (x : ℕ). known x) (string_zero i f g) ∙ none_known)

  tables_formed : WellFormed l.tables N
  tables_formed =
      two_formed l.tables N
      (top_zero l.tables.top (omega (arith, o.top_tables)) (omega (arith, o.top_tables)) (λ z. omega (arith, z, o.top_tables)) (λ z. omega (arith, z, o.top_tables)) (λ z. omega (arith, z, o.top_tables)) (λ z. omega (arith, z, o.top_tables)))
      (table_word (l.tables.top + 1) (omega (arith, o.top_tables, o.header, a)) ∙ tables_are.0)
      (table_word (l.tables.top + 2) (omega (arith, o.top_tables, o.header, a)) ∙ tables_are.1)
      t2 (table_first 0 (omega arith)) (table_first 1 (omega arith)) (λ i f g. ap (λ (x : ℕ). known x) (table_zero i f g) ∙ none_known)

  other_formed : (k : ℕ) → 2 ≤ k → k ≤ 5 → WellFormed (arena_of l k) N
  other_formed k f g =
      let t = top_is l ok a r k g in
      (new_well_formed (arena_of l k) N (zero_at (arena_of l k).top (omega (arith, t, f)) (omega (arith, t, g))) (zero_at ((arena_of l k).top + 1) (omega (arith, t, f)) (omega (arith, t, g)))
      (zero_at ((arena_of l k).top + 2) (omega (arith, t, f)) (omega (arith, t, g)))
      (λ i h. ap (λ (x : ℕ). known x) (other_zero k i f g h) ∙ none_known)
      ).0
    where
      zero_at : (x : ℕ) → 79 ≤ x → x < 91 → at N x ≡ 0
      zero_at x c d = top_zero x (omega (arith, c)) d (λ z. omega (arith, z, c)) (λ z. omega (arith, z, c)) (λ z. omega (arith, z, c)) (λ z. omega (arith, z, c))

  arenas_formed : Arenas l N
  arenas_formed k g = go (ℕ_discrete k 0) (ℕ_discrete k 1)
    where
      go : Dec (k ≡ 0) → Dec (k ≡ 1) → WellFormed (arena_of l k) N
      go (yes e) d = subst (λ (x : ℕ). WellFormed (arena_of l x) N) (sym e) strings_formed
      go (no c) (yes e) = subst (λ (x : ℕ). WellFormed (arena_of l x) N) (sym e) tables_formed
      go (no c) (no d) = other_formed k (omega (arith, c, d)) g

  -- Every occupied slot has the first white.
  colour_one : (k i : ℕ) → k ≤ 5 → i < (arena_of l k).slots → colour (arena_of l k) i N ≢ 0 → colour (arena_of l k) i N ≡ 1
  colour_one k i g h n = go (ℕ_discrete k 0) (ℕ_discrete k 1) (dec_lt i 2)
    where
      zeroed : at N ((arena_of l k).base + i) ≡ 0 → colour (arena_of l k) i N ≡ 1
      zeroed e = absurd (n (ap (λ (x : ℕ). known x) e ∙ none_known))

      go : Dec (k ≡ 0) → Dec (k ≡ 1) → Dec (i < 2) → colour (arena_of l k) i N ≡ 1
      go (yes e) d (yes p) = subst (λ (x : ℕ). colour (arena_of l x) i N ≡ 1) (sym e) (string_first i p)
      go (yes e) d (no p) =
          zeroed (subst (λ (x : ℕ). i < (arena_of l x).slots → at N ((arena_of l x).base + i) ≡ 0) (sym e) (λ q. string_zero i (omega (arith, p)) q) h)
      go (no c) (yes e) (yes p) = subst (λ (x : ℕ). colour (arena_of l x) i N ≡ 1) (sym e) (table_first i p)
      go (no c) (yes e) (no p) =
          zeroed (subst (λ (x : ℕ). i < (arena_of l x).slots → at N ((arena_of l x).base + i) ≡ 0) (sym e) (λ q. table_zero i (omega (arith, p)) q) h)
      go (no c) (no d) p = zeroed (other_zero k i (omega (arith, c, d)) g h)

  -- The state of a new heap.
  pub new_words_state : (c : List ℕ) → l.bytes ≤ length c → lay_of (sizes_at N) ≡ l → 1 ≤ l.frames.room → State l (heap N c)
  new_words_state c wide e frame = record {
    sizes = e;
    long = omega (arith, N_long, long);
    wide = wide;
    whole = field_word DAMAGE (omega arith);
    low = omega (arith, field_word WHITE (omega arith));
    high = omega (arith, field_word WHITE (omega arith));
    arenas = arenas_formed;
    out = λ d. field_word INTERRUPTED (omega arith);
    empty = λ f. none (at N l.queue.count) l.queue.room (ap (at N) (queue_count l ok) ∙ field_word 72 (omega arith));
    paid = λ z. absurd (let t : ⊥ = omega (arith, z, field_word PHASE (omega arith)) in t);
    swept = λ d. record {
      arena = 6;
      slot = 0;
      most = omega arith;
      strings = λ z. absurd (let t : ⊥ = omega (arith, z) in t);
      others = λ z f. absurd (let t : ⊥ = omega (arith, f) in t);
      ended = λ z. inl (field_word PHASE (omega arith));
      within = λ f. absurd (let t : ⊥ = omega (arith, f) in t);
      white = λ k i g h p n. colour_one k i g h n ∙ sym (field_word WHITE (omega arith));
    };
    lists = record {
      gray = small (at N l.gray.count) l.gray.room (ap (at N) o.gray ∙ field_word 69 (omega arith));
      grayagain = small (at N l.grayagain.count) l.grayagain.room (ap (at N) o.grayagain ∙ field_word 70 (omega arith));
      weak = small (at N l.weak.count) l.weak.room (ap (at N) o.weak ∙ field_word 71 (omega arith));
      queue = small (at N l.queue.count) l.queue.room (ap (at N) (queue_count l ok) ∙ field_word 72 (omega arith));
    };
    mains = record {
      protos = small (at N PROTOTYPES) l.protos.room (field_word PROTOTYPES (omega arith));
      top = small (at N TOP) l.stack.room (field_word TOP (omega arith));
      opens = small (at N OPENS) l.opens.room (field_word OPENS (omega arith));
      frame = omega (arith, frame, field_word CI (omega arith));
    };
    sum = record {
      total = omega (arith, field_word TOTAL (omega arith), strings_count, tables_count, other_count 2 (omega arith) (omega arith), other_count 3 (omega arith) (omega arith), other_count 4 (omega arith) (omega arith), other_count 5 (omega arith) (omega arith));
      most = omega (arith, field_word TOTAL (omega arith));
    };
    nested = record { few = λ n f. never n f; falls = λ n j f. never n f; parent = λ n j f. never n f; once = λ n i j f. never n f };
  }
    where
      -- no prototype is made
      never : {A : Type 0} (n : ℕ) → n < at N PROTOTYPES → A
      never n f = absurd (let z : ⊥ = omega (arith, f, field_word PROTOTYPES (omega arith)) in z)

      small : (x m : ℕ) → x ≡ 0 → x ≤ m
      small x m e = omega (arith, e)

      strings_count : count l.strings N ≡ 2
      strings_count = string_word (l.strings.top + 2) (omega (arith, o.top_strings, o.header, a)) (λ z. omega (arith, z, o.top_strings)) (λ z. omega (arith, z, o.top_strings)) ∙ strings_are.1

      tables_count : count l.tables N ≡ 2
      tables_count = table_word (l.tables.top + 2) (omega (arith, o.top_tables, o.header, a)) ∙ tables_are.1

      other_count : (k : ℕ) → 2 ≤ k → k ≤ 5 → count (arena_of l k) N ≡ 0
      other_count k f g =
          let t = top_is l ok a r k g in
          top_zero ((arena_of l k).top + 2) (omega (arith, t)) (omega (arith, t, g)) (λ z. omega (arith, z, t, f)) (λ z. omega (arith, z, t, f)) (λ z. omega (arith, z, t, f)) (λ z. omega (arith, z, t, f))

      none : (x m : ℕ) → x ≡ 0 → min x m ≡ 0
      none x m e = omega (arith, e)

-- The sizes stand in the header.
module _ (s : Sizes) (f : SizesOk s) (w b : List ℕ) (long : (lay_of s).words ≤ length w) (wide : (lay_of s).bytes ≤ length b) where
  abbrev l : Lay
  l = lay_of s

  two_strings : 2 ≤ (lay_of s).strings.slots
  unfolding lay_of
  two_strings = f.strings2

  two_tables : 2 ≤ (lay_of s).tables.slots
  unfolding lay_of
  two_tables = f.tables2

  one_frame : 1 ≤ (lay_of s).frames.room
  unfolding lay_of
  one_frame = f.frames1

  abbrev word : (p : ℕ) → p < 73 → at (N (lay_of s) (laid_of s f) (apart s) (rows s) w long two_strings two_tables) p ≡ row p (field_rows (lay_of s)) 0
  word p h = field_word (lay_of s) (laid_of s f) (apart s) (rows s) w long two_strings two_tables p h

  stored : sizes_at (puts (table_rows (lay_of s)) (puts (name_rows (lay_of s)) (puts (field_rows (lay_of s)) (clear 0 (lay_of s).words w)))) ≡ s
  unfolding sizes_at lay_of
  stored =
      rw (
        word 0 (omega arith),
        word 1 (omega arith),
        word 2 (omega arith),
        word 3 (omega arith),
        word 4 (omega arith),
        word 5 (omega arith),
        word 6 (omega arith),
        word 7 (omega arith),
        word 8 (omega arith),
        word 9 (omega arith),
      )

  text_long : length (new_bytes (lay_of s) b) ≡ length b
  unfolding new_bytes gc_text mode_text
  text_long =
      puts_length ((67, 99) ∷ (66, 103) ∷ (65, 95) ∷ (64, 95) ∷ (5, 101) ∷ (4, 100) ∷ (3, 111) ∷ (2, 109) ∷ (1, 95) ∷ (0, 95) ∷ []) (clear 0 (lay_of s).bytes b)
      ∙ clear_length 0 (lay_of s).bytes b

  pub new_state : State (lay_of s) (heap (new_words (lay_of s) w) (new_bytes (lay_of s) b))
  new_state =
      subst (λ (u : List ℕ). State (lay_of s) (heap u (new_bytes (lay_of s) b))) (sym (new_is (lay_of s) w))
      (new_words_state (lay_of s) (laid_of s f) (apart s) (rows s) w long two_strings two_tables (new_bytes (lay_of s) b) (omega (arith, wide, text_long)) (ap lay_of stored) one_frame)

  pub new_pause : at (new_words (lay_of s) w) PHASE ≡ 0
  new_pause = ap (λ (u : List ℕ). at u PHASE) (new_is (lay_of s) w) ∙ word PHASE (omega arith)
