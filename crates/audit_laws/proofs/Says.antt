-- The audit says yes exactly if what document 01 says of it holds. Assumes nothing.
--     audit_says              the audit says yes exactly if the heap passes
--     audit_denies            and no exactly if it does not
--     audit_row_1, audit_row_8     it is refused with 1 and 8 as every call
use Rattle.std.specs.Prelude.{◌≡◌, refl, Bool, true, false, ◌&&◌, List as Words, ◌↔◌, ℕ, ◌≤◌, ◌<◌, leb, length, Ok, Err}
use Rattle.std.proofs.Common.{sym, ap, ◌∙◌, true≢false, arith, eqb-true, eq-eqb, leb-true, le-leb}
use Rattle.base.specs.Words.{at}
use Rattle.base.specs.Heap.{heap}
use Rattle.base.specs.declared.Refusal.TheVariants.{Unfit, Damaged}
use Rattle.arena.specs.Slots.{fresh, used}
use Rattle.layout.specs.declared.List.{List}
use Rattle.layout.specs.declared.Lay.{Lay}
use Rattle.layout.specs.declared.Sizes.{Sizes}
use Rattle.layout.specs.Places.{DAMAGE, PHASE, STRINGS, TABLES, FUNCTIONS, UPVALUES, USERDATA, THREADS, HEADER}
use Rattle.layout.specs.Table.{all, all_hold}
use Rattle.layout.specs.Sizes.{sizes_fit}
use Rattle.layout.specs.Layout.{lay_of}
use Rattle.test1.specs.Test1.{sizes_at, arena_rows, arenas_fit, list_rows, main_rows, counts_fit, accepted}
use Rattle.test1.specs.Rows.{ask_row_1, ask_row_8, ask_row_else}
use Rattle.reads.specs.Objects.{arena_of}
use Rattle.reads.specs.declared.Kind.{Kind}
use Rattle.reads.specs.declared.Kind.TheVariants as kind
use Rattle.chains.specs.Chains.{chain_holds}
use Rattle.held.specs.Held.{slots_name, all_name}
use Rattle.audit.specs.Audit.{is_pause, is_within, lists_within, chains_hold, audit_of, said, audit}
use Rattle.audit_laws.specs.Tests.{Means, means_as, and_means}
use Rattle.audit_laws.specs.Walks.{Chained}
use Rattle.audit_laws.proofs.Walks.{chain_means}
use Rattle.audit_laws.specs.Handles.{SlotHolds}
use Rattle.audit_laws.proofs.Handles.{slots_mean}
use Rattle.audit_laws.specs.Says.{Within, Passes}

module _ (l : Lay) (w : Words ℕ) (below : (k : Kind) → fresh (arena_of l k) w ≤ (arena_of l k).slots) where
  within_means : (b : List) → Means (is_within b w) (Within b w)
  within_means b = (leb-true (at w b.count) b.room, le-leb (at w b.count) b.room)

  pause_means : Means (is_pause w) (at w PHASE ≡ 0)
  pause_means = (eqb-true (at w PHASE) 0, eq-eqb (at w PHASE) 0)

  lists_mean : Means (lists_within l w) (((Within l.gray w × Within l.grayagain w) × Within l.weak w) × Within l.queue w)
  unfolding lists_within
  lists_mean = and_means _ _ (and_means _ _ (and_means _ _ (within_means l.gray) (within_means l.grayagain)) (within_means l.weak)) (within_means l.queue)

  one_chain : (k : Kind) → Means (chain_holds (arena_of l k) w) (Chained (arena_of l k) w)
  one_chain k = chain_means (arena_of l k) w (below k)

  chains_mean : Means (chains_hold l w) ((k : Kind) → Chained (arena_of l k) w)
  unfolding chains_hold
  chains_mean =
      means_as
      (λ x. by x)
      (λ h. (((((h kind.Strings, h kind.Tables), h kind.Functions), h kind.Upvalues), h kind.Userdata), h kind.Threads))
      (and_means _ _
      (and_means _ _
      (and_means _ _
      (and_means _ _ (and_means _ _ (one_chain kind.Strings) (one_chain kind.Tables)) (one_chain kind.Functions))
      (one_chain kind.Upvalues))
      (one_chain kind.Userdata))
      (one_chain kind.Threads))
    where
      by : (((((Chained l.strings w × Chained l.tables w) × Chained l.functions w) × Chained l.upvalues w) × Chained l.userdata w) × Chained l.threads w)
          → (k : Kind) → Chained (arena_of l k) w
      by x kind.Strings = x.0.0.0.0.0
      by x kind.Tables = x.0.0.0.0.1
      by x kind.Functions = x.0.0.0.1
      by x kind.Upvalues = x.0.0.1
      by x kind.Userdata = x.0.1
      by x kind.Threads = x.1

  -- all records of one kind, and of all kinds; strings hold no handle
  abbrev AllHold : Kind → Type 0
  AllHold k = (i : ℕ) → i < fresh (arena_of l k) w → SlotHolds l w k i

  kind_means : (k : Kind) → Means (slots_name l w k) (AllHold k)
  kind_means k =
      let e : used (arena_of l k) w ≡ fresh (arena_of l k) w = omega (arith, below k) in
      means_as (λ x i h. x i (omega (arith, e))) (λ x i h. x i (omega (arith, e))) (slots_mean l w k)

  handles_mean : Means (all_name l w) ((k : Kind) → AllHold k)
  unfolding all_name
  handles_mean =
      means_as
      (λ x. by x)
      (λ h. ((((h kind.Tables, h kind.Functions), h kind.Upvalues), h kind.Userdata), h kind.Threads))
      (and_means _ _
      (and_means _ _
      (and_means _ _ (and_means _ _ (kind_means kind.Tables) (kind_means kind.Functions)) (kind_means kind.Upvalues))
      (kind_means kind.Userdata))
      (kind_means kind.Threads))
    where
      by : ((((AllHold kind.Tables × AllHold kind.Functions) × AllHold kind.Upvalues) × AllHold kind.Userdata) × AllHold kind.Threads) → (k : Kind) → AllHold k
      by x kind.Strings = λ i h d. tt
      by x kind.Tables = x.0.0.0.0
      by x kind.Functions = x.0.0.0.1
      by x kind.Upvalues = x.0.0.1
      by x kind.Userdata = x.0.1
      by x kind.Threads = x.1

  pub audit_means : Means (audit_of l w) (Passes l w)
  unfolding audit_of
  audit_means =
      means_as
      (λ x. record {
        pause = x.0.0.0;
        gray = x.0.0.1.0.0.0;
        grayagain = x.0.0.1.0.0.1;
        weak = x.0.0.1.0.1;
        queue = x.0.0.1.1;
        chains = x.0.1;
        handles = x.1;
      })
      (λ h. (((h.pause, (((h.gray, h.grayagain), h.weak), h.queue)), h.chains), h.handles))
      (and_means _ _ (and_means _ _ (and_means _ _ pause_means lists_mean) chains_mean) handles_mean)

-- Row 1 asks of every call that a fresh index is at most the slots.
both : (a b : Bool) → a && b ≡ true → (a ≡ true) × (b ≡ true)
both true b p = (refl, p)
both false b p = absurd (true≢false (sym p))

arenas_fit_lem : (w : Words ℕ) (m : ℕ) → accepted w m ≡ true → arenas_fit w (sizes_at w) ≡ true
unfolding accepted counts_fit
arenas_fit_lem w m ok =
    let a = leb HEADER (length w) in
    let b = sizes_fit (sizes_at w) in
    let c = counts_fit w (sizes_at w) in
    let d = leb (lay_of (sizes_at w)).words (length w) in
    let q = (both (a && b) c (both (a && b && c) d (both (a && b && c && d) _ ok).0).0).1 in
    let f = arenas_fit w (sizes_at w) in
    let g = all (list_rows w (sizes_at w)) in
    let h = all (main_rows w (sizes_at w)) in
    (both f g (both (f && g) h (both (f && g && h) _ q).0).0).0

module _ (w : Words ℕ) (s : Sizes) (fit : arenas_fit w s ≡ true) where
  -- the two rows of an arena say yes
  abbrev Fits : ℕ → ℕ → Type 0
  Fits top slots = all (arena_rows w top slots) ≡ true

  six : (Fits STRINGS s.strings × Fits TABLES s.tables) × ((Fits FUNCTIONS s.functions × Fits UPVALUES s.upvalues) × (Fits USERDATA s.userdata × Fits THREADS s.threads))
  unfolding arenas_fit
  six =
      let a = all (arena_rows w STRINGS s.strings) in
      let b = all (arena_rows w TABLES s.tables) in
      let c = all (arena_rows w FUNCTIONS s.functions) in
      let d = all (arena_rows w UPVALUES s.upvalues) in
      let e = all (arena_rows w USERDATA s.userdata) in
      let p = both (a && b && c && d && e) _ fit in
      let q = both (a && b && c && d) e p.0 in
      let r = both (a && b && c) d q.0 in
      let t = both (a && b) c r.0 in
      (both a b t.0, ((t.1, r.1), (q.1, p.1)))

  pub arenas_below : (k : Kind) → fresh (arena_of (lay_of s) k) w ≤ (arena_of (lay_of s) k).slots
  unfolding lay_of
  arenas_below kind.Strings = (all_hold (arena_rows w STRINGS s.strings) six.0.0).0
  arenas_below kind.Tables = (all_hold (arena_rows w TABLES s.tables) six.0.1).0
  arenas_below kind.Functions = (all_hold (arena_rows w FUNCTIONS s.functions) six.1.0.0).0
  arenas_below kind.Upvalues = (all_hold (arena_rows w UPVALUES s.upvalues) six.1.0.1).0
  arenas_below kind.Userdata = (all_hold (arena_rows w USERDATA s.userdata) six.1.1.0).0
  arenas_below kind.Threads = (all_hold (arena_rows w THREADS s.threads) six.1.1.1).0

said_yes : (b : Bool) → said b ≡ Ok true → b ≡ true
said_yes true p = refl
said_yes false p = absurd (let z : ◌≡◌ {A = ℕ} 0 1 = cc in let y : ⊥ = omega arith in y)

said_no : (b : Bool) → said b ≡ Ok false → b ≡ false
said_no true p = absurd (let z : ◌≡◌ {A = ℕ} 0 1 = cc in let y : ⊥ = omega arith in y)
said_no false p = refl

-- A heap that test 1 lets in, and without the damage mark: yes exactly if it passes, no exactly if it does not.
module _ (w b : Words ℕ) (ok : accepted w (length b) ≡ true) (whole : at w DAMAGE ≡ 0) where
  abbrev lay : Lay
  lay = lay_of (sizes_at w)

  audit_is : audit (heap w b) ≡ said (audit_of lay w)
  unfolding audit
  audit_is = ask_row_else Err (λ l g. said (audit_of l g.words)) w b ok whole

  of_means : Means (audit_of lay w) (Passes lay w)
  of_means = audit_means lay w (arenas_below w (sizes_at w) (arenas_fit_lem w (length b) ok))

  pub audit_says : audit (heap w b) ≡ Ok true ↔ Passes lay w
  audit_says = (
    (λ p. of_means.0 (said_yes (audit_of lay w) (sym audit_is ∙ p))),
    λ h. audit_is ∙ ap said (of_means.1 h),
  )

  pub audit_denies : audit (heap w b) ≡ Ok false ↔ (Passes lay w → ⊥)
  audit_denies = (
    (λ p h. true≢false (sym (of_means.1 h) ∙ said_no (audit_of lay w) (sym audit_is ∙ p))),
    λ d. audit_is ∙ ap said (neither (audit_of lay w) (λ e. d (of_means.0 e))),
  )
    where
      neither : (x : Bool) → (x ≡ true → ⊥) → x ≡ false
      neither true f = absurd (f refl)
      neither false f = refl

-- Any other heap is refused, with 1 or 8.
module _ (w b : Words ℕ) where
  pub audit_row_1 : accepted w (length b) ≡ false → audit (heap w b) ≡ Err Unfit
  unfolding audit
  audit_row_1 p = ask_row_1 Err (λ l g. said (audit_of l g.words)) w b p

  pub audit_row_8 : accepted w (length b) ≡ true → (at w DAMAGE ≡ 0 → ⊥) → audit (heap w b) ≡ Err Damaged
  unfolding audit
  audit_row_8 p q = ask_row_8 Err (λ l g. said (audit_of l g.words)) w b p q
