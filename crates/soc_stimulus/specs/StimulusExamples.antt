-- Worked examples: texts of data and masks, shapes, limits, the requests of a small chip, devices, and a whole file.
use Rattle.std.specs.Prelude.{ℕ, pos, ◌≡◌, true, false, List, [], ◌∷◌, codes, Option, Some, None}
use Rattle.toml.specs.Data.{Data, Items, Members, string, integer, array, table, no_items, item, no_members, member}
use Rattle.dip_lists.specs.First.{Failure, failure_of, first_failing}
use Rattle.dip_sets.specs.SizeRanges.{SizeRange, no_sizes, size_range}
use Rattle.tl_params.specs.declared.ops.Op.TheVariants.{PutFull, Arithmetic, Logical}
use Rattle.tl_params.specs.declared.ops.Ops.{Ops}
use Rattle.tl_params.specs.declared.ops.Policy.TheVariants.{Lowest}
use Rattle.tl_params.specs.declared.ports.DownPort.{DownPort}
use Rattle.tl_params.specs.declared.ports.UpPort.{UpPort}
use Rattle.tl_edge.specs.declared.plan.Plan.{Plan}
use Rattle.tl_edge.specs.declared.plan.PlanPort.{PlanPort}
use Rattle.sim_ports.specs.declared.role.Role.TheVariants.{Ram, Rom, Deny}
use Rattle.soc_stimulus.specs.declared.tables.Part.TheVariants.{Request, Stall}
use Rattle.soc_stimulus.specs.Loads.{data_bytes, mask_flags}
use Rattle.soc_stimulus.specs.Reading.{tree_rules}
use Rattle.soc_stimulus.specs.Requests.{request_rules, rules_of_each}
use Rattle.soc_stimulus.specs.Settings.{default_setting, devices_from, settings_of, unnamed_devices}
use Rattle.soc_stimulus.specs.Shape.{is_data_text, is_flag_text, request_has_shape}
use Rattle.soc_stimulus.specs.Stated.{is_beyond, most_bytes_of, size_of}

-- ---- texts

-- the first two digits are the byte at the lowest address, and the first flag is that byte's
pub record TextsExample : Type 0 where
  pub in_order : data_bytes (codes "0a10ff") ≡ 0x0a ∷ 0x10 ∷ 0xff ∷ []
  pub none : data_bytes [] ≡ []
  pub flags : mask_flags (codes "1001") ≡ true ∷ false ∷ false ∷ true ∷ []
  pub low_flag : mask_flags (codes "10") ≡ true ∷ false ∷ []
  pub digits : is_data_text (codes "09af") ≡ true
  pub no_digits : is_data_text [] ≡ true
  pub odd : is_data_text (codes "0a1") ≡ false
  pub upper_case : is_data_text (codes "0A") ≡ false
  pub beyond_f : is_data_text (codes "0g") ≡ false
  pub beyond_nine : is_data_text (codes "0:") ≡ false
  pub ones : is_flag_text (codes "0110") ≡ true
  pub two : is_flag_text (codes "0120") ≡ false

-- ---- sizes

-- a size is the base-2 logarithm of a power of two up to 256; an atomic operation has at most 8 bytes
pub record BytesExample : Type 0 where
  pub one : size_of 1 ≡ Some 0
  pub most : size_of 256 ≡ Some 8
  pub three : size_of 3 ≡ None
  pub zero_bytes : size_of 0 ≡ None
  pub too_many : size_of 512 ≡ None
  pub atomic : most_bytes_of Arithmetic ≡ 8
  pub atomic_too : most_bytes_of Logical ≡ 8
  pub put : most_bytes_of PutFull ≡ 256

-- ---- a chip: a source with one id that emits gets of 1 to 8 bytes, and one memory that takes puts of such sizes too

-- the names of its two nodes
abbrev pub chip_names : List (List ℕ)
chip_names = codes "core" ∷ codes "ram" ∷ []

-- its source port
abbrev pub chip_sources : List PlanPort
chip_sources = record { edge = 0; node = 0; port = 0; name = codes "core" } ∷ []

-- its sink port
abbrev pub chip_sinks : List PlanPort
chip_sinks = record { edge = 0; node = 1; port = 0; name = codes "ram" } ∷ []

-- gets of 1 to 8 bytes, puts of these sizes, and nothing else
abbrev pub gets_and_puts : SizeRange → Ops
gets_and_puts puts = record {
  get = size_range 1 8;
  put_full = puts;
  put_partial = no_sizes;
  arithmetic = no_sizes;
  logical = no_sizes;
  intent = no_sizes;
}

-- what goes down its edge
abbrev pub chip_downs : List DownPort
chip_downs =
    record {
      masters = record {
        node = 0;
        port = 0;
        ids = record { start = 0; end = 1 };
        emits = gets_and_puts no_sizes;
      } ∷ [];
    } ∷ []

-- what goes up it
abbrev pub chip_ups : List UpPort
chip_ups =
    record {
      slaves = record {
        node = 1;
        port = 0;
        addresses = record { base = 0x80000000; mask = 0xffff } ∷ [];
        supports = gets_and_puts (size_range 1 8);
      } ∷ [];
      beat = 8;
    } ∷ []

-- as much of its plan as its stimulus needs
abbrev pub chip_plan : Plan
chip_plan = record {
  name = codes "chip";
  policy = Lowest;
  leaves = [];
  edges = [];
  sources = chip_sources;
  sinks = chip_sinks;
}

-- the table of a request of a node, by its operation, its address, its bytes and its source, before other entries
abbrev pub request_table : List ℕ → List ℕ → ℕ → ℕ → ℕ → Members → Data
request_table node op address bytes source others =
    table
    (member (codes "node") (string node)
    (member (codes "op") (string op)
    (member (codes "address") (integer (pos address))
    (member (codes "bytes") (integer (pos bytes))
    (member (codes "source") (integer (pos source)) others)))))

-- a get
abbrev pub get_table : ℕ → ℕ → ℕ → Data
get_table address bytes source = request_table (codes "core") (codes "get") address bytes source no_members

-- an operation with these data
abbrev pub loaded_table : List ℕ → ℕ → ℕ → List ℕ → Data
loaded_table op address bytes payload =
    request_table (codes "core") op address bytes 0 (member (codes "data") (string payload) no_members)

-- the first of the rules 4 to 9 that a table fails as entry 1
abbrev pub chip_fails : Data → Option Failure
chip_fails d = first_failing (request_rules chip_names chip_sources chip_downs chip_ups 1 d)

-- the same of two tables, the entries 1 and 2
abbrev pub both_fail : Data → Data → Option Failure
both_fail one other =
    first_failing (rules_of_each (request_rules chip_names chip_sources chip_downs chip_ups) 1
    (item one (item other no_items)))

-- each request but the first one fails one rule, and of two requests the first one that fails any is named
pub record RequestsExample : Type 0 where
  pub legal : chip_fails (get_table 0x80000000 8 0) ≡ None
  pub no_source : chip_fails (request_table (codes "ram") (codes "get") 0x80000000 8 0 no_members)
      ≡ Some (failure_of 4 1)
  pub no_node : chip_fails (request_table (codes "cpu") (codes "get") 0x80000000 8 0 no_members)
      ≡ Some (failure_of 4 1)
  pub no_port : chip_fails (request_table (codes "core") (codes "get") 0x80000000 8 0
      (member (codes "port") (integer (pos 1)) no_members)) ≡ Some (failure_of 4 1)
  pub no_param : chip_fails (request_table (codes "core") (codes "get") 0x80000000 8 0
      (member (codes "param") (integer (pos 1)) no_members)) ≡ Some (failure_of 5 1)
  pub too_short : chip_fails (loaded_table (codes "put_full") 0x80000000 8 (codes "00010203"))
      ≡ Some (failure_of 5 1)
  pub misaligned : chip_fails (get_table 0x80000004 8 0) ≡ Some (failure_of 6 1)
  pub no_master : chip_fails (get_table 0x80000000 8 1) ≡ Some (failure_of 7 1)
  pub unowned : chip_fails (get_table 0x90000000 8 0) ≡ Some (failure_of 8 1)
  pub unsupported : chip_fails (get_table 0x80000000 16 0) ≡ Some (failure_of 8 1)
  pub not_emitted : chip_fails (loaded_table (codes "put_full") 0x80000000 8 (codes "0001020304050607"))
      ≡ Some (failure_of 9 1)
  pub first_entry : both_fail (get_table 0x90000000 8 0) (get_table 0x80000004 8 0) ≡ Some (failure_of 8 1)
  pub second_entry : both_fail (get_table 0x80000000 8 0) (get_table 0x80000004 8 0) ≡ Some (failure_of 6 2)

-- ---- shapes and limits

-- data stand where the operation has some, and nowhere else
pub record ShapesExample : Type 0 where
  pub get : request_has_shape (get_table 0 8 0) ≡ true
  pub get_with_data : request_has_shape (loaded_table (codes "get") 0 1 (codes "00")) ≡ false
  pub put : request_has_shape (loaded_table (codes "put_full") 0 1 (codes "00")) ≡ true
  pub put_without : request_has_shape (request_table (codes "core") (codes "put_full") 0 1 0 no_members)
      ≡ false
  pub partly_without : request_has_shape (loaded_table (codes "put_partial") 0 1 (codes "00")) ≡ false
  pub partly : request_has_shape (request_table (codes "core") (codes "put_partial") 0 1 0
      (member (codes "data") (string (codes "00")) (member (codes "mask") (string (codes "1")) no_members)))
      ≡ true
  pub upper_name : request_has_shape (request_table (codes "Core") (codes "get") 0 8 0 no_members) ≡ false
  pub no_op : request_has_shape (request_table (codes "core") (codes "put") 0 8 0 no_members) ≡ false

-- the table of a stall of channel A in these cycles
abbrev pub stall_table : ℕ → ℕ → Data
stall_table start end =
    table
    (member (codes "node") (string (codes "core"))
    (member (codes "side") (string (codes "a"))
    (member (codes "from") (integer (pos start))
    (member (codes "to") (integer (pos end)) no_members))))

-- an atomic operation of 16 bytes, three bytes, a source too high, a stall that ends before it begins, and a request
-- too many
pub record LimitsExample : Type 0 where
  pub atomic : is_beyond Request 0 (loaded_table (codes "arithmetic") 0 8 []) ≡ false
  pub large_atomic : is_beyond Request 0 (loaded_table (codes "arithmetic") 0 16 []) ≡ true
  pub large_logical : is_beyond Request 0 (loaded_table (codes "logical") 0 16 []) ≡ true
  pub large_get : is_beyond Request 0 (get_table 0 256 0) ≡ false
  pub too_large : is_beyond Request 0 (get_table 0 512 0) ≡ true
  pub three_bytes : is_beyond Request 0 (get_table 0 3 0) ≡ true
  pub last_source : is_beyond Request 0 (get_table 0 8 1023) ≡ false
  pub source_too_high : is_beyond Request 0 (get_table 0 8 1024) ≡ true
  pub last_request : is_beyond Request 9999 (get_table 0 8 0) ≡ false
  pub one_too_many : is_beyond Request 10000 (get_table 0 8 0) ≡ true
  pub no_cycles : is_beyond Stall 0 (stall_table 5 5) ≡ false
  pub backwards : is_beyond Stall 0 (stall_table 6 5) ≡ true

-- ---- devices

-- the table of a device of a node
abbrev pub device_table : List ℕ → Members → Data
device_table node others = table (member (codes "node") (string node) others)

-- a role
abbrev pub role_entry : List ℕ → Members
role_entry role = member (codes "role") (string role) no_members

-- a second device for one port, a device of a source, and the settings of three ports of which only one is named
pub record DevicesExample : Type 0 where
  pub named : devices_from chip_names chip_sinks [] (item (device_table (codes "ram") (role_entry (codes "rom")))
      no_items)
      ≡ Some (record { port = 0; setting = record { role = Rom; delay = 0 } } ∷ [])
  pub second : unnamed_devices chip_names chip_sinks [] 3 (item (device_table (codes "ram") no_members)
      (item (device_table (codes "ram") no_members) no_items)) ≡ 4 ∷ []
  pub of_source : unnamed_devices chip_names chip_sinks [] 3 (item (device_table (codes "core") no_members)
      no_items) ≡ 3 ∷ []
  pub settings : settings_of (record { port = 1; setting = record { role = Deny; delay = 7 } } ∷ []) 3
      ≡ default_setting ∷ record { role = Deny; delay = 7 } ∷ default_setting ∷ []
  pub default : default_setting ≡ record { role = Ram; delay = 0 }

-- ---- a whole file

-- a file of four cycles with these requests and devices
abbrev pub chip_file : Items → Items → Members
chip_file requests devices =
    member (codes "cycles") (integer (pos 4))
    (member (codes "device") (array devices) (member (codes "request") (array requests) no_members))

-- the first of the rules 2 to 9 that such a file fails
abbrev pub file_fails : Items → Items → Option Failure
file_fails requests devices =
    first_failing (tree_rules chip_names chip_plan chip_downs chip_ups (chip_file requests devices))

-- rule 2 at the device goes before rule 3 at the request, and that before rule 8; rule 8 at the request goes before
-- rule 4 at the device
pub record FileExample : Type 0 where
  pub nothing : file_fails (item (get_table 0x80000000 8 0) no_items) no_items ≡ None
  pub shape_first : file_fails (item (get_table 0x80000000 3 0) no_items)
      (item (device_table (codes "ram") (role_entry (codes "RAM"))) no_items) ≡ Some (failure_of 2 2)
  pub limits_next : file_fails (item (get_table 0x90000000 8 0) (item (get_table 0x80000000 3 0) no_items)) no_items
      ≡ Some (failure_of 3 2)
  pub by_entry : file_fails (item (get_table 0x90000000 8 0) no_items)
      (item (device_table (codes "core") no_members) no_items) ≡ Some (failure_of 8 1)
  pub device_last : file_fails (item (get_table 0x80000000 8 0) no_items)
      (item (device_table (codes "core") no_members) no_items) ≡ Some (failure_of 4 2)
