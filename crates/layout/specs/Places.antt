-- The places of the header, and the words of each record: the page to hold beside docs/LAYOUT.md. The names are those of
-- the constants in src/lib.rt, with - for _. An optional handle takes two words, index + 1 (0 none) and generation; a value three, tag,
-- low and high; a number of 64 bits two, the low one first. Assumes nothing.
use Rattle.std.specs.Prelude.{ℕ}

-- Words 0 to 51: marking never writes here. The ten sizes stand first, in the order of `Sizes`.
abbrev pub SIZES : ℕ
SIZES = 0

-- prototypes used
abbrev pub PROTOTYPES : ℕ
PROTOTYPES = 10

-- the main thread: top, open count, current frame, error value, hook value
abbrev pub TOP : ℕ
TOP = 11

abbrev pub OPENS : ℕ
OPENS = 12

abbrev pub CI : ℕ
CI = 13

abbrev pub ERROR : ℕ
ERROR = 14

abbrev pub HOOK : ℕ
HOOK = 17

-- handles: global, registry, the names `__mode` and `__gc`, nine type metatables
abbrev pub GLOBAL : ℕ
GLOBAL = 20

abbrev pub REGISTRY : ℕ
REGISTRY = 22

abbrev pub NAME_MODE : ℕ
NAME_MODE = 24

abbrev pub NAME_GC : ℕ
NAME_GC = 26

abbrev pub METATABLES : ℕ
METATABLES = 28

-- the limit (64 bits), pause, stepmul, the next creation number (64 bits)
abbrev pub LIMIT : ℕ
LIMIT = 46

abbrev pub PAUSE : ℕ
PAUSE = 48

abbrev pub STEPMUL : ℕ
STEPMUL = 49

abbrev pub CREATION : ℕ
CREATION = 50

-- Words 52 to 90: a step may write here. The damage mark, phase, current white, sweep cursor.
abbrev pub DAMAGE : ℕ
DAMAGE = 52

abbrev pub PHASE : ℕ
PHASE = 53

abbrev pub WHITE : ℕ
WHITE = 54

abbrev pub CURSOR_ARENA : ℕ
CURSOR_ARENA = 55

abbrev pub CURSOR_SLOT : ℕ
CURSOR_SLOT = 56

-- total, peak, estimate; threshold and debt (64 bits each, the debt plus 2^63)
abbrev pub TOTAL : ℕ
TOTAL = 57

abbrev pub PEAK : ℕ
PEAK = 58

abbrev pub ESTIMATE : ℕ
ESTIMATE = 59

abbrev pub THRESHOLD : ℕ
THRESHOLD = 60

abbrev pub DEBT : ℕ
DEBT = 62

-- the finalizer that is out: what it interrupted, its userdata (a handle), the remaining budget (64 bits)
abbrev pub INTERRUPTED : ℕ
INTERRUPTED = 64

abbrev pub OUT : ℕ
OUT = 65

abbrev pub REMAINING : ℕ
REMAINING = 67

-- the counts of the four lists
abbrev pub GRAY : ℕ
GRAY = 69

abbrev pub GRAYAGAIN : ℕ
GRAYAGAIN = 70

abbrev pub WEAK : ℕ
WEAK = 71

abbrev pub QUEUE : ℕ
QUEUE = 72

-- for each arena three words: head of the chain, fresh index, count of occupied slots
abbrev pub STRINGS : ℕ
STRINGS = 73

abbrev pub TABLES : ℕ
TABLES = 76

abbrev pub FUNCTIONS : ℕ
FUNCTIONS = 79

abbrev pub UPVALUES : ℕ
UPVALUES = 82

abbrev pub USERDATA : ℕ
USERDATA = 85

abbrev pub THREADS : ℕ
THREADS = 88

-- the words of the header
abbrev pub HEADER : ℕ
HEADER = 91

-- The words of one record, of one item of a list, of one value, of one handle in the main open list; the bytes of a string.
abbrev pub STRING_WORDS : ℕ
STRING_WORDS = 1

abbrev pub TABLE_WORDS : ℕ
TABLE_WORDS = 580

abbrev pub FUNCTION_WORDS : ℕ
FUNCTION_WORDS = 53

abbrev pub UPVALUE_WORDS : ℕ
UPVALUE_WORDS = 4

abbrev pub USERDATA_WORDS : ℕ
USERDATA_WORDS = 7

abbrev pub THREAD_WORDS : ℕ
THREAD_WORDS = 268

abbrev pub PROTO_WORDS : ℕ
PROTO_WORDS = 59

abbrev pub ITEM_WORDS : ℕ
ITEM_WORDS = 3

abbrev pub VALUE_WORDS : ℕ
VALUE_WORDS = 3

abbrev pub HANDLE_WORDS : ℕ
HANDLE_WORDS = 2

abbrev pub STRING_BYTES : ℕ
STRING_BYTES = 64
