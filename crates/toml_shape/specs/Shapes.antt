-- What stands in a TOML tree.
use Rattle.std.specs.Prelude.{ℕ, ℤ, pos, negsuc, List, length, Bool, true, false, ◌&&◌, cond, Option, Some, None, is_some, nat_le}
use Rattle.std.specs.Option.{option_and_then, option_map}
use Rattle.std.specs.List.{list_any}
use Rattle.std.specs.Str.{bytes_eq}
use Rattle.toml.specs.Data.{Data, string, integer, array, table, Items, no_items, item, Members, no_members, member, get_member}
use Rattle.dip_sets.specs.Names.{is_name}

-- ---- keys

-- each key of a table is among these
abbrev pub keys_among : List (List ℕ) → Members → Bool
keys_among keys no_members = true
keys_among keys (member k d ms) = list_any (bytes_eq k) keys && keys_among keys ms

-- ---- values

-- the text that a value is
abbrev pub text_of : Data → Option (List ℕ)
text_of (string s) = Some s
text_of d = None

-- the integer that a value is
abbrev pub integer_of : Data → Option ℤ
integer_of (integer z) = Some z
integer_of d = None

-- the two integers of an array of exactly two
abbrev pub pair_of_items : Items → Option (ℤ × ℤ)
pair_of_items (item c (item d no_items)) = option_and_then (λ y. option_map (λ z. (y, z)) (integer_of d)) (integer_of c)
pair_of_items ds = None

-- the two integers of the array that a value is, where it has exactly two items
abbrev pub pair_of : Data → Option (ℤ × ℤ)
pair_of (array ds) = pair_of_items ds
pair_of d = None

-- a name of at most 32 bytes
abbrev pub short_name : List ℕ → Option (List ℕ)
short_name text = cond (is_name text && nat_le (length text) 32) (Some text) None

-- a number from a least to a greatest one
abbrev pub number_within : ℕ → ℕ → ℤ → Option ℕ
number_within least most (pos n) = cond (nat_le least n && nat_le n most) (Some n) None
number_within least most (negsuc n) = None

-- the entries of the table that a value is
abbrev pub entries_of : Data → Option Members
entries_of (table ms) = Some ms
entries_of d = None

-- a value is a table
abbrev pub is_table : Data → Bool
is_table (table ms) = true
is_table d = false

-- each item is a table
abbrev pub are_tables : Items → Bool
are_tables no_items = true
are_tables (item d ds) = is_table d && are_tables ds

-- ---- the value under a key

-- the text under a key
abbrev pub text_under : List ℕ → Members → Option (List ℕ)
text_under key ms = option_and_then text_of (get_member key ms)

-- the name of at most 32 bytes under a key
abbrev pub name_under : List ℕ → Members → Option (List ℕ)
name_under key ms = option_and_then short_name (text_under key ms)

-- the integer under a key
abbrev pub integer_under : List ℕ → Members → Option ℤ
integer_under key ms = option_and_then integer_of (get_member key ms)

-- the number from a least to a greatest one under a key
abbrev pub number_under : List ℕ → ℕ → ℕ → Members → Option ℕ
number_under key least most ms = option_and_then (number_within least most) (integer_under key ms)

-- the entries of the table under a key
abbrev pub table_under : List ℕ → Members → Option Members
table_under key ms = option_and_then entries_of (get_member key ms)

-- an array of tables, which may be missing
abbrev pub tables_of : Option Data → Option Items
tables_of None = Some no_items
tables_of (Some (array ds)) = cond (are_tables ds) (Some ds) None
tables_of (Some d) = None

-- the array of tables under a key, none where the key is missing
abbrev pub tables_under : List ℕ → Members → Option Items
tables_under key ms = tables_of (get_member key ms)

-- ---- what stands under a key

-- a value is an integer
abbrev pub is_integer : Data → Bool
is_integer d = is_some (integer_of d)

-- a value is a name of at most 32 bytes
abbrev pub is_short_name : Data → Bool
is_short_name d = is_some (option_and_then short_name (text_of d))

-- a text is one of these
abbrev pub is_text_among : List (List ℕ) → Option (List ℕ) → Bool
is_text_among texts None = false
is_text_among texts (Some text) = list_any (bytes_eq text) texts

-- a value is one of these texts
abbrev pub is_one_of : List (List ℕ) → Data → Bool
is_one_of texts d = is_text_among texts (text_of d)

-- the value has to stand there and pass
abbrev pub has : (Data → Bool) → Option Data → Bool
has test None = false
has test (Some d) = test d

-- the value may be missing, and passes where it stands there
abbrev pub may_have : (Data → Bool) → Option Data → Bool
may_have test None = true
may_have test (Some d) = test d
