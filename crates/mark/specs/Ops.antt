-- What marking asks of a heap, as an interface: an object is named by kind, index and generation; it has a colour and can
-- be painted; the working lists take and give items; links are read from the words. Marking is defined over it, and the
-- words of a heap are one instance (specs/Words). Assumes nothing.
use Rattle.std.specs.Prelude.{Bool, true, cond, List, ℕ, eqb, Option}
use Rattle.base.specs.Ways.{if_eq}
use Rattle.lists.specs.declared.Item.{Item}
use Rattle.value.specs.declared.StrRef.{StrRef}
use Rattle.value.specs.declared.TableRef.{TableRef}
use Rattle.value.specs.declared.FuncRef.{FuncRef}
use Rattle.value.specs.declared.UpvalRef.{UpvalRef}
use Rattle.value.specs.declared.UdRef.{UdRef}
use Rattle.value.specs.declared.ThreadRef.{ThreadRef}

-- A handle of any kind. Kinds are numbered in sweep order: strings 0, tables 1, closures 2, upvalues 3, userdata 4, threads 5.
pub record Ref : Type 0 where
  pub kind : ℕ
  pub at : ℕ
  pub gen : ℕ

abbrev pub ref : ℕ → ℕ → ℕ → Ref
ref k i g = record { kind = k; at = i; gen = g }

abbrev pub str : StrRef → Ref
str r = ref 0 r.0 r.1

abbrev pub tab : TableRef → Ref
tab r = ref 1 r.0 r.1

abbrev pub fun : FuncRef → Ref
fun r = ref 2 r.0 r.1

abbrev pub upval : UpvalRef → Ref
upval r = ref 3 r.0 r.1

abbrev pub ud : UdRef → Ref
ud r = ref 4 r.0 r.1

abbrev pub thread : ThreadRef → Ref
thread r = ref 5 r.0 r.1

-- the working lists that marking uses
pub data Work : Type 0 where
  gray : Work
  grayagain : Work
  weak : Work

pub record Ops (S : Type 0) : Type 0 where
  pub colour : Ref → S → ℕ  -- 0 where nothing occupied is named, 1 and 2 white, 3 gray, 4 black
  pub paint : Ref → ℕ → S → S
  pub push : Work → Item → S → S
  pub pop : Work → S → Option Item × S
  pub clear : Work → S → S
  pub body : S → List ℕ  -- the words that links are read from

-- Colours 1 and 2 are the whites.
unfoldable pub is_white : ℕ → Bool
is_white c = cond (eqb c 1) true (eqb c 2)

abbrev pub other_white : ℕ → ℕ
other_white c = if_eq c 1 2 1
