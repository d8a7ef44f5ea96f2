-- The arena at the cursor lies within words and bytes that are long enough, whatever the cursor says. Assumes nothing.
use Rattle.std.specs.Prelude.{List, ℕ, ◌*◌, ◌≤◌, length}
use Rattle.std.proofs.Common.{arith}
use Rattle.base.specs.Ways.{eq_either}
use Rattle.arena.specs.declared.Arena.{Arena}
use Rattle.arena.specs.Slots.{Room}
use Rattle.layout.specs.declared.Lay.{Lay}
use Rattle.layout.specs.Fits.{ArenaOk}
use Rattle.laid.specs.Laid.{Laid, tables_room, functions_room, upvalues_room, userdata_room, threads_room}
use Rattle.sweep_step.specs.Sweeping.{arena_at}

-- the bytes of an arena's slots, in bytes that are long enough
texts_in : {a : Arena} {t k v d n m x : ℕ} → ArenaOk a t k v d n m → m ≤ x → a.slots * a.width ≤ x
texts_in h p = rw h.width (omega (arith, h.bytes))

-- what the five arenas have, the one at the cursor has
any : (P : Arena → Type 0) (l : Lay) (k : ℕ) → P l.tables → P l.functions → P l.upvalues → P l.userdata → P l.threads → P (arena_at l k)
unfolding arena_at
any P l k t f u d h = eq_either P k 0 _ _ t (eq_either P k 1 _ _ f (eq_either P k 2 _ _ u (eq_either P k 3 _ _ d h)))

module _ (l : Lay) (k : ℕ) (ok : Laid l) where
  pub swept_room : (w : List ℕ) → l.words ≤ length w → Room (arena_at l k) w
  swept_room w h =
      any (λ (a : Arena). Room a w) l k (tables_room l w ok h) (functions_room l w ok h) (upvalues_room l w ok h) (userdata_room l w ok h) (threads_room l w ok h)

  pub swept_wide : (n : ℕ) → l.bytes ≤ n → (arena_at l k).slots * (arena_at l k).width ≤ n
  unfolding Laid
  swept_wide n h =
      any (λ (a : Arena). a.slots * a.width ≤ n) l k
      (texts_in ok.tables h) (texts_in ok.functions h) (texts_in ok.upvalues h) (texts_in ok.userdata h) (texts_in ok.threads h)

pub strings_wide : (l : Lay) (n : ℕ) → Laid l → l.bytes ≤ n → l.strings.slots * l.strings.width ≤ n
unfolding Laid
strings_wide l n ok h = texts_in ok.strings h

-- and the header, whose words the steps read and write
pub header_in : (l : Lay) (n : ℕ) → Laid l → l.words ≤ n → 91 ≤ n
unfolding Laid
header_in l n ok h = omega (arith, ok.header)
