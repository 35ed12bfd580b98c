-- The longest token, or gap between tokens, at the front of a text.
use Rattle.std.specs.Prelude.{ℕ, ◌+◌, ◌-◌, ◌==◌, List, length, codes, take, drop, slice_index, Bool, not, ◌&&◌, ◌||◌, nat_le, nat_lt, cond}
use Rattle.std.specs.List.{prefix_len}
use Rattle.std.specs.Str.{bytes_eq}
use Rattle.dip_sets.specs.Names.{is_letter, is_name_byte}
use Rattle.ver_text.specs.declared.kind.Kind.{Kind}
use Rattle.ver_text.specs.declared.kind.Kind.TheVariants.{Name, Number, Literal, Module, Input, Output, Reg, Wire, Assign, Always, Posedge, Endmodule, OpenParen, CloseParen, OpenBracket, CloseBracket, OpenBrace, CloseBrace, Comma, Semicolon, Colon, Becomes, Question, At, Tilde, And, Or, Xor, Plus, Minus, Equal, Less, LessEqual, Gap, Unknown}
use Rattle.ver_text.specs.declared.scan.Lexeme.{Lexeme}

-- `0` to `9`
abbrev pub is_digit : ℕ → Bool
is_digit c = nat_le 48 c && nat_le c 57

-- `0` to `9` and `a` to `f`
abbrev pub is_hex : ℕ → Bool
is_hex c = is_digit c || (nat_le 97 c && nat_le c 102)

-- a space, a tab, a line feed or a carriage return
abbrev pub is_space : ℕ → Bool
is_space c = (c == 32) || (c == 9) || (c == 10) || (c == 13)

-- a byte that no line ends with
abbrev pub is_no_line_feed : ℕ → Bool
is_no_line_feed c = not (c == 10)

-- a token or gap of one byte
abbrev pub one : Kind → Lexeme
one kind = record { kind = kind; more = 0 }

-- a keyword, or a name
abbrev pub word_kind : List ℕ → Kind
word_kind word =
    cond (bytes_eq word (codes "module")) Module
    (cond (bytes_eq word (codes "input")) Input
    (cond (bytes_eq word (codes "output")) Output
    (cond (bytes_eq word (codes "reg")) Reg
    (cond (bytes_eq word (codes "wire")) Wire
    (cond (bytes_eq word (codes "assign")) Assign
    (cond (bytes_eq word (codes "always")) Always
    (cond (bytes_eq word (codes "posedge")) Posedge
    (cond (bytes_eq word (codes "endmodule")) Endmodule Name))))))))

-- the keyword or name of so many bytes
abbrev pub word_of : List ℕ → ℕ → Lexeme
word_of text length = record { kind = word_kind (take length text); more = length - 1 }

-- a letter, then letters, digits and `_`
abbrev pub word_lexeme : List ℕ → Lexeme
word_lexeme text = word_of text (prefix_len is_name_byte text)

-- how many bytes of a literal follow its width: `'h` and hexadecimal digits
abbrev pub literal_tail : List ℕ → ℕ
literal_tail text =
    cond
    (nat_lt 2 (length text) && (slice_index text 0 == 39) && (slice_index text 1 == 104) && is_hex (slice_index text 2))
    (3 + prefix_len is_hex (drop 3 text)) 0

-- a number of so many digits, or a literal of so many digits and bytes behind them
abbrev pub numeral_of : ℕ → ℕ → Lexeme
numeral_of digits tail =
    cond (tail == 0) (record { kind = Number; more = digits - 1 }) (record { kind = Literal; more = digits + tail - 1 })

-- a number, or a literal where one follows
abbrev pub numeral_lexeme : List ℕ → Lexeme
numeral_lexeme text =
    let digits = prefix_len is_digit text in
    numeral_of digits (literal_tail (drop digits text))

-- a comment: from `//` to a line feed or the end
abbrev pub comment_lexeme : List ℕ → Lexeme
comment_lexeme text =
    cond (slice_index text 1 == 47) (record { kind = Gap; more = 1 + prefix_len is_no_line_feed (drop 2 text) })
    (one Unknown)

-- `<=` or `<`
abbrev pub less_lexeme : List ℕ → Lexeme
less_lexeme text = cond (slice_index text 1 == 61) (record { kind = LessEqual; more = 1 }) (one Less)

-- `==` or `=`
abbrev pub equals_lexeme : List ℕ → Lexeme
equals_lexeme text = cond (slice_index text 1 == 61) (record { kind = Equal; more = 1 }) (one Becomes)

-- the other tokens, of one byte
abbrev pub symbol_kind : ℕ → Kind
symbol_kind c =
    cond (c == 40) OpenParen
    (cond (c == 41) CloseParen
    (cond (c == 91) OpenBracket
    (cond (c == 93) CloseBracket
    (cond (c == 123) OpenBrace
    (cond (c == 125) CloseBrace
    (cond (c == 44) Comma
    (cond (c == 59) Semicolon
    (cond (c == 58) Colon
    (cond (c == 63) Question
    (cond (c == 64) At
    (cond (c == 126) Tilde
    (cond (c == 38) And
    (cond (c == 124) Or
    (cond (c == 94) Xor
    (cond (c == 43) Plus
    (cond (c == 45) Minus Unknown))))))))))))))))

-- what a text has at its front, which begins with this byte
abbrev pub lexeme_by : ℕ → List ℕ → Lexeme
lexeme_by c text =
    cond (is_letter c) (word_lexeme text)
    (cond (is_digit c) (numeral_lexeme text)
    (cond (is_space c) (one Gap)
    (cond (c == 47) (comment_lexeme text)
    (cond (c == 60) (less_lexeme text)
    (cond (c == 61) (equals_lexeme text) (one (symbol_kind c)))))))

-- what a text has at its front
unfoldable pub first_lexeme : List ℕ → Lexeme
first_lexeme text = lexeme_by (slice_index text 0) text
