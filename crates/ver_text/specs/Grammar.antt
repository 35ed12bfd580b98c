-- The syntax of a netlist's text, over the kinds of its tokens.
--
-- A text is a row of constructs, each told by its first token. The tables below say of each first token where its
-- construct may stand, which tokens follow it, and which constructs may come then:
--
--   Text        module NAME (                                   then Port
--   Port        input or output, range NAME                     then MorePorts
--   MorePorts   ,                                               then Port
--               ) ;                                             then Item
--   Item        reg or wire, range NAME ;                       then Item
--               assign NAME =                                   then Expression
--               always @ ( posedge NAME ) NAME <= NAME ;        then Item
--               endmodule                                       then nothing
--   Expression  LITERAL ;   or  ~ NAME ;   or  { NAME , NAME } ;  then Item
--               NAME                                            then AfterName
--   AfterName   ;   or  an operator NAME ;   or  ? NAME : NAME ;   or  [ NUMBER : NUMBER ] ;   then Item
--
-- where a range is [ NUMBER : NUMBER ].
use Rattle.std.specs.Prelude.{◌≡◌, ◌+◌, List, [], ◌∷◌, slice_get, Bool, true, false, cond, Option, Some, None}
use Rattle.ver_text.specs.declared.kind.Kind.{Kind}
use Rattle.ver_text.specs.declared.kind.Kind.TheVariants.{Name, Number, Literal, Module, Input, Output, Reg, Wire, Assign, Always, Posedge, Endmodule, OpenParen, CloseParen, OpenBracket, CloseBracket, OpenBrace, CloseBrace, Comma, Semicolon, Colon, Becomes, Question, At, Tilde, And, Or, Xor, Plus, Minus, Equal, Less, LessEqual, Gap}
use Rattle.ver_text.specs.declared.kind.Rule.{Rule}
use Rattle.ver_text.specs.declared.kind.Rule.TheVariants.{Text, Port, MorePorts, Item, Expression, AfterName, Ended, Inner}
use Rattle.ver_text.specs.declared.grammar.State.{State}
use Rattle.ver_text.specs.Kinds.{same_kind, same_rule}

-- where a construct may stand that begins with this token
abbrev pub rule_begun : Kind → Rule
rule_begun Module = Text
rule_begun Input = Port
rule_begun Output = Port
rule_begun Comma = MorePorts
rule_begun CloseParen = MorePorts
rule_begun Reg = Item
rule_begun Wire = Item
rule_begun Assign = Item
rule_begun Always = Item
rule_begun Endmodule = Item
rule_begun Literal = Expression
rule_begun Tilde = Expression
rule_begun OpenBrace = Expression
rule_begun Name = Expression
rule_begun Semicolon = AfterName
rule_begun And = AfterName
rule_begun Or = AfterName
rule_begun Xor = AfterName
rule_begun Plus = AfterName
rule_begun Minus = AfterName
rule_begun Equal = AfterName
rule_begun Less = AfterName
rule_begun Question = AfterName
rule_begun OpenBracket = AfterName
rule_begun _ = Inner

-- the tokens that follow the first of an expression
abbrev pub behind_value : Kind → List Kind
behind_value Literal = Semicolon ∷ []
behind_value Tilde = Name ∷ Semicolon ∷ []
behind_value OpenBrace = Name ∷ Comma ∷ Name ∷ CloseBrace ∷ Semicolon ∷ []
behind_value And = Name ∷ Semicolon ∷ []
behind_value Or = Name ∷ Semicolon ∷ []
behind_value Xor = Name ∷ Semicolon ∷ []
behind_value Plus = Name ∷ Semicolon ∷ []
behind_value Minus = Name ∷ Semicolon ∷ []
behind_value Equal = Name ∷ Semicolon ∷ []
behind_value Less = Name ∷ Semicolon ∷ []
behind_value Question = Name ∷ Colon ∷ Name ∷ Semicolon ∷ []
behind_value OpenBracket = Number ∷ Colon ∷ Number ∷ CloseBracket ∷ Semicolon ∷ []
behind_value _ = []

-- the tokens that follow the first of a construct
abbrev pub behind : Kind → List Kind
behind Module = Name ∷ OpenParen ∷ []
behind Input = OpenBracket ∷ Number ∷ Colon ∷ Number ∷ CloseBracket ∷ Name ∷ []
behind Output = OpenBracket ∷ Number ∷ Colon ∷ Number ∷ CloseBracket ∷ Name ∷ []
behind CloseParen = Semicolon ∷ []
behind Reg = OpenBracket ∷ Number ∷ Colon ∷ Number ∷ CloseBracket ∷ Name ∷ Semicolon ∷ []
behind Wire = OpenBracket ∷ Number ∷ Colon ∷ Number ∷ CloseBracket ∷ Name ∷ Semicolon ∷ []
behind Assign = Name ∷ Becomes ∷ []
behind Always = At ∷ OpenParen ∷ Posedge ∷ Name ∷ CloseParen ∷ Name ∷ LessEqual ∷ Name ∷ Semicolon ∷ []
behind kind = behind_value kind

-- what may come behind it; before the first token, the whole text
abbrev pub next_rule : Kind → Rule
next_rule Module = Port
next_rule Input = MorePorts
next_rule Output = MorePorts
next_rule Comma = Port
next_rule Assign = Expression
next_rule Endmodule = Ended
next_rule Name = AfterName
next_rule Gap = Text
next_rule _ = Item

-- where nothing was read yet
abbrev pub start : State
start = record { first = Gap; done = 0 }

-- a token within a construct, or the first of the next one
abbrev pub within : State → Option Kind → Kind → Option State
within s (Some wanted) kind = cond (same_kind wanted kind) (Some (record { first = s.first; done = s.done + 1 })) None
within s None kind =
    cond (same_rule (next_rule s.first) (rule_begun kind)) (Some (record { first = kind; done = 0 })) None

-- what has been read after one more token; none where the token can't come there
unfoldable pub next_state : State → Kind → Option State
next_state s kind = within s (slice_get (behind s.first) s.done) kind

-- whether the text may end there
abbrev pub is_whole : State → Bool
is_whole s = same_kind s.first Endmodule

-- goes on from what has been read, where it could be read
abbrev pub then_run : Option State → (State → Option State) → Option State
then_run None go = None
then_run (Some s) go = go s

-- what has been read after several tokens
abbrev pub read_through : State → List Kind → Option State
read_through s [] = Some s
read_through s (kind ∷ kinds) = then_run (next_state s kind) (λ next. read_through next kinds)

-- whether the text may end there, where it could be read
abbrev pub is_whole_text : Option State → Bool
is_whole_text None = false
is_whole_text (Some s) = is_whole s

-- These tokens have the syntax.
abbrev pub HasSyntax : List Kind → Type 0
HasSyntax kinds = is_whole_text (read_through start kinds) ≡ true
