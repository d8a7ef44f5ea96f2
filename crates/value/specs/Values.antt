-- Document 01, module 2: the nine kinds of value, each stored in three words: tag, low, high. Assumes nothing.
use Rattle.std.specs.Prelude.{ℕ, ◌+◌, ◌/◌, ◌%◌, Bool, true, false, List, ◌==◌, nat_lt}
use Rattle.base.specs.Ways.{if_eq}
use Rattle.base.specs.Words.{at, put, join}
use Rattle.value.specs.Numbers.{same_number}
use Rattle.value.specs.declared.Value.{Value}
use Rattle.value.specs.declared.Value.TheVariants.{Nil, Boolean, Light, Number, Str, Table, Function, Userdata, Thread}

-- The tag is Lua's own number of the type.
abbrev pub tag_of : Value → ℕ
tag_of Nil = 0
tag_of (Boolean b) = 1
tag_of (Light x) = 2
tag_of (Number x) = 3
tag_of (Str r) = 4
tag_of (Table r) = 5
tag_of (Function r) = 6
tag_of (Userdata r) = 7
tag_of (Thread r) = 8

abbrev pub word_of : Bool → ℕ
word_of true = 1
word_of false = 0

-- A boolean has 0 or 1 in its low word; 64 bits lie low word first; a handle is its index and its generation.
abbrev pub low_of : Value → ℕ
low_of Nil = 0
low_of (Boolean b) = word_of b
low_of (Light x) = x % 4294967296
low_of (Number x) = x % 4294967296
low_of (Str r) = r.0
low_of (Table r) = r.0
low_of (Function r) = r.0
low_of (Userdata r) = r.0
low_of (Thread r) = r.0

abbrev pub high_of : Value → ℕ
high_of Nil = 0
high_of (Boolean b) = 0
high_of (Light x) = x / 4294967296
high_of (Number x) = x / 4294967296
high_of (Str r) = r.1
high_of (Table r) = r.1
high_of (Function r) = r.1
high_of (Userdata r) = r.1
high_of (Thread r) = r.1

-- both words of a payload as 64 bits
abbrev pub bits_of : Value → ℕ
bits_of v = join (low_of v) (high_of v)

-- An unknown tag is nil. A boolean whose low word is not 0 is true.
unfoldable pub value_of : ℕ → ℕ → ℕ → Value
value_of tag low high =
    if_eq tag 1 (Boolean (nat_lt 0 low))
    (if_eq tag 2 (Light (join low high))
    (if_eq tag 3 (Number (join low high))
    (if_eq tag 4 (Str (record { 0 = low; 1 = high }))
    (if_eq tag 5 (Table (record { 0 = low; 1 = high }))
    (if_eq tag 6 (Function (record { 0 = low; 1 = high }))
    (if_eq tag 7 (Userdata (record { 0 = low; 1 = high }))
    (if_eq tag 8 (Thread (record { 0 = low; 1 = high }))
    Nil)))))))

-- the value in words p to p + 2
abbrev pub value_at : List ℕ → ℕ → Value
value_at w p = value_of (at w p) (at w (p + 1)) (at w (p + 2))

abbrev pub put3 : ℕ → ℕ → ℕ → ℕ → List ℕ → List ℕ
put3 p a b c w = put (p + 2) c (put (p + 1) b (put p a w))

abbrev pub put_value : ℕ → Value → List ℕ → List ℕ
put_value p v w = put3 p (tag_of v) (low_of v) (high_of v) w

abbrev pub is_nil : Value → Bool
is_nil v = tag_of v == 0

-- Keys are equal by kind and payload, stale handles too; numbers as numbers are.
unfoldable pub payload_equal : Value → Value → Bool
payload_equal a b = if_eq (low_of a) (low_of b) (high_of a == high_of b) false

unfoldable pub key_equal : Value → Value → Bool
key_equal a b =
    if_eq (tag_of a) (tag_of b)
    (if_eq (tag_of a) 3 (same_number (bits_of a) (bits_of b)) (payload_equal a b))
    false
