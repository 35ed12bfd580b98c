use Rattle.std.proofs.Common.{sym}
use Rattle.soc_top.proofs.Arms.{of_map, of_read, of_sim, of_usage, of_verilog, other_name, other_than_three}
use Rattle.soc_top.specs.Words.{words_of}
use Rattle.soc_top.proofs.top.answer.Goals as goal

pub returns-in-Some-clause-answered : goal.returns-in-Some-clause-answered
returns-in-Some-clause-answered g c = of_map _ _ _ _ _ _ c.in-Some.name.now (sym c.in-Some.ensures) c.answer_map.ensures.answered

pub returns-in-Some-file_of-clause-answered : goal.returns-in-Some-file_of-clause-answered
returns-in-Some-file_of-clause-answered g c = of_read _ _ _ _ _ _ c.in-Some-file_of.name.now (sym c.in-Some-file_of.ensures) c.answer_read.ensures.answered

pub returns-in-Some-files_of-clause-answered : goal.returns-in-Some-files_of-clause-answered
returns-in-Some-files_of-clause-answered g c = of_verilog _ _ _ _ _ _ _ (sym c.in-Some-files_of.ensures) c.answer_verilog.ensures.answered

pub returns-in-Some-files_of-clause-files : goal.returns-in-Some-files_of-clause-files
returns-in-Some-files_of-clause-files g c =
    λ name other. c.answer_verilog.ensures.others name (other_name (words_of c.args.words.now) _ name (sym c.in-Some-files_of.ensures) other)

pub returns-in-Some-three_of-clause-answered : goal.returns-in-Some-three_of-clause-answered
returns-in-Some-three_of-clause-answered g c = of_sim _ _ _ _ _ _ _ (sym c.in-Some-three_of.ensures) c.answer_sim.ensures.answered

pub returns-in-Some-three_of-clause-files : goal.returns-in-Some-three_of-clause-files
returns-in-Some-three_of-clause-files g c =
    λ name other. c.answer_sim.ensures.others name (other_than_three (words_of c.args.words.now) _ name (sym c.in-Some-three_of.ensures) other)

pub returns-clause-answered : goal.returns-clause-answered
returns-clause-answered g c =
    of_usage _ _ _ _ _ _ (sym c.in_default.ensures) (sym c.in_default-file_of.ensures) (sym c.in_default-files_of.ensures) (sym c.in_default-three_of.ensures) c.finish.ensures
