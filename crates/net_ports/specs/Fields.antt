-- The names of the fields on the wires of a port, each with its channel.
use Rattle.std.specs.Prelude.{ℕ, List, [], ◌∷◌, codes}
use Rattle.net_ports.specs.declared.field.Field.{Field}
use Rattle.net_ports.specs.declared.field.Field.TheVariants.{AReady, AValid, AOpcode, AParam, ASize, ASource, AAddress, AMask, AData, DReady, DValid, DOpcode, DSize, DSource, DDenied, DData}

-- the name of a field
abbrev pub field_name : Field → List ℕ
field_name AReady = codes "a_ready"
field_name AValid = codes "a_valid"
field_name AOpcode = codes "a_opcode"
field_name AParam = codes "a_param"
field_name ASize = codes "a_size"
field_name ASource = codes "a_source"
field_name AAddress = codes "a_address"
field_name AMask = codes "a_mask"
field_name AData = codes "a_data"
field_name DReady = codes "d_ready"
field_name DValid = codes "d_valid"
field_name DOpcode = codes "d_opcode"
field_name DSize = codes "d_size"
field_name DSource = codes "d_source"
field_name DDenied = codes "d_denied"
field_name DData = codes "d_data"

-- the fields of a beat of channel A, in the order of the ports
abbrev pub a_beat_fields : List Field
a_beat_fields = AOpcode ∷ AParam ∷ ASize ∷ ASource ∷ AAddress ∷ AMask ∷ AData ∷ []

-- the fields of a beat of channel D
abbrev pub d_beat_fields : List Field
d_beat_fields = DOpcode ∷ DSize ∷ DSource ∷ DDenied ∷ DData ∷ []
