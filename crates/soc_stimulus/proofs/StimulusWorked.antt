-- The worked examples of stimulus files, computed.
use Rattle.std.proofs.Common.{refl}
use Rattle.soc_stimulus.specs.StimulusExamples.{BytesExample, DevicesExample, FileExample, LimitsExample, RequestsExample, ShapesExample, TextsExample}

pub texts_example : TextsExample
texts_example = record {
  in_order = refl;
  none = refl;
  flags = refl;
  low_flag = refl;
  digits = refl;
  no_digits = refl;
  odd = refl;
  upper_case = refl;
  beyond_f = refl;
  beyond_nine = refl;
  ones = refl;
  two = refl;
}

pub bytes_example : BytesExample
bytes_example = record {
  one = refl;
  most = refl;
  three = refl;
  zero_bytes = refl;
  too_many = refl;
  atomic = refl;
  atomic_too = refl;
  put = refl;
}

pub requests_example : RequestsExample
unfolding lib.Count.ones
requests_example = record {
  legal = refl;
  no_source = refl;
  no_node = refl;
  no_port = refl;
  no_param = refl;
  too_short = refl;
  misaligned = refl;
  no_master = refl;
  unowned = refl;
  unsupported = refl;
  not_emitted = refl;
  first_entry = refl;
  second_entry = refl;
}

pub shapes_example : ShapesExample
shapes_example = record {
  get = refl;
  get_with_data = refl;
  put = refl;
  put_without = refl;
  partly_without = refl;
  partly = refl;
  upper_name = refl;
  no_op = refl;
}

pub limits_example : LimitsExample
limits_example = record {
  atomic = refl;
  large_atomic = refl;
  large_logical = refl;
  large_get = refl;
  too_large = refl;
  three_bytes = refl;
  last_source = refl;
  source_too_high = refl;
  last_request = refl;
  one_too_many = refl;
  no_cycles = refl;
  backwards = refl;
}

pub devices_example : DevicesExample
devices_example = record {
  named = refl;
  second = refl;
  of_source = refl;
  settings = refl;
  default = refl;
}

pub file_example : FileExample
unfolding lib.Count.ones
file_example = record {
  nothing = refl;
  shape_first = refl;
  limits_next = refl;
  by_entry = refl;
  device_last = refl;
}
