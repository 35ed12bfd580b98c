use Rattle.soc_stimulus.proofs.StimulusWorked.{bytes_example, devices_example, file_example, limits_example, requests_example, shapes_example, texts_example}
use Rattle.soc_stimulus.proofs.laws.stimulus_examples_law.Goals as goal

pub returns-clause-texts : goal.returns-clause-texts
returns-clause-texts c = texts_example

pub returns-clause-bytes : goal.returns-clause-bytes
returns-clause-bytes c = bytes_example

pub returns-clause-shapes : goal.returns-clause-shapes
returns-clause-shapes c = shapes_example

pub returns-clause-limits : goal.returns-clause-limits
returns-clause-limits c = limits_example

pub returns-clause-requests : goal.returns-clause-requests
returns-clause-requests c = requests_example

pub returns-clause-devices : goal.returns-clause-devices
returns-clause-devices c = devices_example

pub returns-clause-file : goal.returns-clause-file
returns-clause-file c = file_example
