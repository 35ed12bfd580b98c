-- The kinds of tokens, and the rules of the grammar, told apart.
use Rattle.std.specs.Prelude.{ℕ, Bool, true, false, ◌==◌}
use Rattle.ver_text.specs.declared.kind.Kind.{Kind}
use Rattle.ver_text.specs.declared.kind.Kind.TheVariants.{Name, Number, Literal, Module, Input, Output, Reg, Wire, Assign, Always, Posedge, Endmodule, OpenParen, CloseParen, OpenBracket, CloseBracket, OpenBrace, CloseBrace, Comma, Semicolon, Colon, Becomes, Question, At, Tilde, And, Or, Xor, Plus, Minus, Equal, Less, LessEqual, Gap, Unknown}
use Rattle.ver_text.specs.declared.kind.Rule.{Rule}
use Rattle.ver_text.specs.declared.kind.Rule.TheVariants.{Text, Port, MorePorts, Item, Expression, AfterName, Ended, Inner}

-- what may stand between tokens
abbrev pub is_gap : Kind → Bool
is_gap Gap = true
is_gap _ = false

-- the tokens that are told apart by their bytes
abbrev pub is_word : Kind → Bool
is_word Name = true
is_word Number = true
is_word Literal = true
is_word _ = false

-- a number for each kind, to compare them
abbrev pub number_of_kind : Kind → ℕ
number_of_kind Name = 0
number_of_kind Number = 1
number_of_kind Literal = 2
number_of_kind Module = 3
number_of_kind Input = 4
number_of_kind Output = 5
number_of_kind Reg = 6
number_of_kind Wire = 7
number_of_kind Assign = 8
number_of_kind Always = 9
number_of_kind Posedge = 10
number_of_kind Endmodule = 11
number_of_kind OpenParen = 12
number_of_kind CloseParen = 13
number_of_kind OpenBracket = 14
number_of_kind CloseBracket = 15
number_of_kind OpenBrace = 16
number_of_kind CloseBrace = 17
number_of_kind Comma = 18
number_of_kind Semicolon = 19
number_of_kind Colon = 20
number_of_kind Becomes = 21
number_of_kind Question = 22
number_of_kind At = 23
number_of_kind Tilde = 24
number_of_kind And = 25
number_of_kind Or = 26
number_of_kind Xor = 27
number_of_kind Plus = 28
number_of_kind Minus = 29
number_of_kind Equal = 30
number_of_kind Less = 31
number_of_kind LessEqual = 32
number_of_kind Gap = 33
number_of_kind Unknown = 34

-- whether two kinds are one
abbrev pub same_kind : Kind → Kind → Bool
same_kind a b = number_of_kind a == number_of_kind b

-- a number for each rule, to compare them
abbrev pub number_of_rule : Rule → ℕ
number_of_rule Text = 0
number_of_rule Port = 1
number_of_rule MorePorts = 2
number_of_rule Item = 3
number_of_rule Expression = 4
number_of_rule AfterName = 5
number_of_rule Ended = 6
number_of_rule Inner = 7

-- whether two rules are one
abbrev pub same_rule : Rule → Rule → Bool
same_rule a b = number_of_rule a == number_of_rule b
