-- The main record and the prototypes: each writer of a prototype stores within its own 59 words; the parts past the boundary,
-- written to, leave all words below it, and the header, written to, leaves all from the boundary on. Assumes nothing.
use Rattle.std.specs.Prelude.{◌≡◌, List, ◌≢◌, ℕ, ◌+◌, ◌*◌, ◌≤◌, ◌<◌, take, drop, Option}
use Rattle.std.proofs.Common.{inl, inr, arith}
use Rattle.std.proofs.Math.Decide.{dec_lt}
use Rattle.base.specs.Words.{put}
use Rattle.value.specs.declared.TableRef.{TableRef}
use Rattle.value.specs.declared.Value.{Value}
use Rattle.value.specs.declared.UpvalRef.{UpvalRef}
use Rattle.layout.specs.declared.Lay.{Lay}
use Rattle.layout.specs.Places.{METATABLES}
use Rattle.main_record.specs.Prototypes.{proto_at, set_proto_counts, set_proto_parent, set_proto_constant, set_proto_child}
use Rattle.main_record.specs.Main.{set_main_top, set_type_meta, set_main_value, set_main_open, set_frame_function}
use Rattle.record_laws.specs.Stores.{Only, Apart, only_then, only_in, only_put, only_value, only_table, only_upval, below_stays, past_stays}

module _ (l : Lay) (n : ℕ) (w : List ℕ) where
  pub proto_counts_only : (a b : ℕ) → Only (proto_at l n) 59 w (set_proto_counts l n a b w)
  proto_counts_only a b =
      only_then
      (only_in (proto_at l n) 59 (only_put (proto_at l n) a w) (omega arith) (omega arith))
      (only_in (proto_at l n) 59 (only_put (proto_at l n + 1) b (put (proto_at l n) a w)) (omega arith) (omega arith))

  pub proto_parent_only : (x : ℕ) → Only (proto_at l n) 59 w (set_proto_parent l n x w)
  proto_parent_only x = only_in (proto_at l n) 59 (only_put (proto_at l n + 2) x w) (omega arith) (omega arith)

  pub proto_constant_only : (k : ℕ) (v : Value) → k < 16 → Only (proto_at l n) 59 w (set_proto_constant l n k v w)
  proto_constant_only k v h = only_in (proto_at l n) 59 (only_value (proto_at l n + 3 + 3 * k) v w) (omega arith) (omega arith)

  pub proto_child_only : (k x : ℕ) → k < 8 → Only (proto_at l n) 59 w (set_proto_child l n k x w)
  proto_child_only k x h = only_in (proto_at l n) 59 (only_put (proto_at l n + 51 + k) x w) (omega arith) (omega arith)

-- two prototypes are apart
pub protos_apart : (l : Lay) (m n : ℕ) → m ≢ n → Apart (proto_at l m) 59 (proto_at l n) 59
protos_apart l m n d = go (dec_lt m n)
  where
    go : Dec (m < n) → Apart (proto_at l m) 59 (proto_at l n) 59
    go (yes h) = inr (omega arith)
    go (no h) = inl (omega arith)

-- the parts past the boundary
module _ (l : Lay) (i : ℕ) (w : List ℕ) where
  pub main_value_below : (v : Value) → l.boundary ≤ l.stack.base → take l.boundary (set_main_value l i v w) ≡ take l.boundary w
  main_value_below v h = below_stays (only_value (l.stack.base + 3 * i) v w) l.boundary (omega arith)

  pub main_open_below : (u : UpvalRef) → l.boundary ≤ l.opens.base → take l.boundary (set_main_open l i u w) ≡ take l.boundary w
  main_open_below u h = below_stays (only_upval (l.opens.base + 2 * i) u w) l.boundary (omega arith)

  pub frame_below : (n : ℕ) → l.boundary ≤ l.frames.base → take l.boundary (set_frame_function l i n w) ≡ take l.boundary w
  frame_below n h = below_stays (only_put (l.frames.base + i) n w) l.boundary (omega arith)

-- the header: shown for the first and the last field of the main record
pub main_top_past : (n d : ℕ) (w : List ℕ) → 91 ≤ d → drop d (set_main_top n w) ≡ drop d w
main_top_past n d w h = past_stays (only_put 11 n w) d (omega arith)

pub type_meta_past : (k d : ℕ) (t : Option TableRef) (w : List ℕ) → k < 9 → 91 ≤ d → drop d (set_type_meta k t w) ≡ drop d w
type_meta_past k d t w h g = past_stays (only_table (METATABLES + 2 * k) t w) d (omega arith)
