-- The shape of a stimulus file's tables: which keys stand in them, and values of which types.
use Rattle.std.specs.Prelude.{ℕ, List, [], ◌∷◌, codes, length, Bool, false, ◌&&◌, ◌||◌, ◌==◌, ◌%◌, cond, nat_le}
use Rattle.std.specs.Prelude.{Option, Some, None, is_some, is_none}
use Rattle.std.specs.Option.{option_and_then}
use Rattle.std.specs.List.{list_all}
use Rattle.std.specs.Str.{bytes_eq}
use Rattle.toml.specs.Data.{Data, table, Members, get_member}
use Rattle.tl_params.specs.declared.ops.Op.{Op}
use Rattle.tl_params.specs.declared.ops.Op.TheVariants.{PutFull, PutPartial, Arithmetic, Logical, Get, Intent}
use Rattle.tl_edge.specs.Messages.{has_data, has_flags}
use Rattle.soc_stimulus.specs.declared.tables.Part.{Part}
use Rattle.soc_stimulus.specs.declared.tables.Part.TheVariants.{Request, Stall, Device}
use Rattle.toml_shape.specs.Shapes.{keys_among, name_under, integer_under, text_of, text_under, tables_under}
use Rattle.toml_shape.specs.Shapes.{is_integer, is_one_of, has, may_have}

-- ---- texts

-- `0` to `9` or `a` to `f`
abbrev pub is_data_digit : ℕ → Bool
is_data_digit c = (nat_le 48 c && nat_le c 57) || (nat_le 97 c && nat_le c 102)

-- two such digits for each byte
abbrev pub is_data_text : List ℕ → Bool
is_data_text text = list_all is_data_digit text && length text % 2 == 0

-- `0` or `1`
abbrev pub is_flag_digit : ℕ → Bool
is_flag_digit c = c == 48 || c == 49

-- one such digit for each byte
abbrev pub is_flag_text : List ℕ → Bool
is_flag_text text = list_all is_flag_digit text

-- a text passes, where there is one
abbrev pub is_text_with : (List ℕ → Bool) → Option (List ℕ) → Bool
is_text_with test None = false
is_text_with test (Some text) = test text

-- a value is a text of the data of a request
abbrev pub is_data : Data → Bool
is_data d = is_text_with is_data_text (text_of d)

-- a value is a text of the mask of a request
abbrev pub is_mask : Data → Bool
is_mask d = is_text_with is_flag_text (text_of d)

-- ---- operations

-- the operation with a name
abbrev pub op_named : List ℕ → Option Op
op_named text =
    cond (bytes_eq text (codes "get")) (Some Get)
    (cond (bytes_eq text (codes "put_full")) (Some PutFull)
    (cond (bytes_eq text (codes "put_partial")) (Some PutPartial)
    (cond (bytes_eq text (codes "arithmetic")) (Some Arithmetic)
    (cond (bytes_eq text (codes "logical")) (Some Logical)
    (cond (bytes_eq text (codes "intent")) (Some Intent) None)))))

-- the operation of a request
abbrev pub op_in : Members → Option Op
op_in ms = option_and_then op_named (text_under (codes "op") ms)

-- a value that passes stands there where it is due, and none does where it isn't
abbrev pub has_where_due : Bool → (Data → Bool) → Option Data → Bool
has_where_due due test d = cond due (has test d) (is_none d)

-- the data and the mask that an operation needs stand there, and no others
abbrev pub has_load : Option Op → Members → Bool
has_load None ms = false
has_load (Some op) ms =
    has_where_due (has_data op) is_data (get_member (codes "data") ms)
    && has_where_due (has_flags op) is_mask (get_member (codes "mask") ms)

-- ---- tables

-- the keys of the top table
abbrev pub stimulus_keys : List (List ℕ)
stimulus_keys = codes "cycles" ∷ codes "request" ∷ codes "stall" ∷ codes "device" ∷ []

-- cycles, and arrays of tables as far as they are there
abbrev pub stimulus_has_shape : Members → Bool
stimulus_has_shape ms =
    keys_among stimulus_keys ms && is_some (integer_under (codes "cycles") ms)
    && is_some (tables_under (codes "request") ms) && is_some (tables_under (codes "stall") ms)
    && is_some (tables_under (codes "device") ms)

-- the keys of a request
abbrev pub request_keys : List (List ℕ)
request_keys =
    codes "node" ∷ codes "op" ∷ codes "address" ∷ codes "bytes" ∷ codes "source" ∷ codes "port" ∷ codes "at"
    ∷ codes "param" ∷ codes "data" ∷ codes "mask" ∷ []

-- the numbers of a request: an address, bytes and a source, and a port, a cycle and a param as far as they are there
abbrev pub has_request_numbers : Members → Bool
has_request_numbers ms =
    is_some (integer_under (codes "address") ms) && is_some (integer_under (codes "bytes") ms)
    && is_some (integer_under (codes "source") ms) && may_have is_integer (get_member (codes "port") ms)
    && may_have is_integer (get_member (codes "at") ms) && may_have is_integer (get_member (codes "param") ms)

-- the name of a node, an operation with its data and mask, and numbers
abbrev pub request_has_shape : Data → Bool
request_has_shape (table ms) =
    keys_among request_keys ms && is_some (name_under (codes "node") ms) && has_request_numbers ms
    && has_load (op_in ms) ms
request_has_shape d = false

-- the keys of a stall
abbrev pub stall_keys : List (List ℕ)
stall_keys = codes "node" ∷ codes "side" ∷ codes "from" ∷ codes "to" ∷ codes "port" ∷ []

-- the channels
abbrev pub channels : List (List ℕ)
channels = codes "a" ∷ codes "d" ∷ []

-- the name of a node, a channel and two cycles, and a port as far as it is there
abbrev pub stall_has_shape : Data → Bool
stall_has_shape (table ms) =
    keys_among stall_keys ms && is_some (name_under (codes "node") ms)
    && has (is_one_of channels) (get_member (codes "side") ms) && is_some (integer_under (codes "from") ms)
    && is_some (integer_under (codes "to") ms) && may_have is_integer (get_member (codes "port") ms)
stall_has_shape d = false

-- the keys of a device
abbrev pub device_keys : List (List ℕ)
device_keys = codes "node" ∷ codes "port" ∷ codes "role" ∷ codes "delay" ∷ []

-- the roles
abbrev pub role_names : List (List ℕ)
role_names = codes "ram" ∷ codes "rom" ∷ codes "deny" ∷ []

-- the name of a node, and a port, a role and a delay as far as they are there
abbrev pub device_has_shape : Data → Bool
device_has_shape (table ms) =
    keys_among device_keys ms && is_some (name_under (codes "node") ms)
    && may_have is_integer (get_member (codes "port") ms)
    && may_have (is_one_of role_names) (get_member (codes "role") ms)
    && may_have is_integer (get_member (codes "delay") ms)
device_has_shape d = false

-- the shape of a request, a stall or a device
abbrev pub table_has_shape : Part → Data → Bool
table_has_shape Request d = request_has_shape d
table_has_shape Stall d = stall_has_shape d
table_has_shape Device d = device_has_shape d
