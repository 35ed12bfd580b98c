-- The parts of a text that has the syntax: the module's name, each port, each item and the end.
use Rattle.std.specs.Prelude.{◌==◌, List, [], ◌∷◌, length, Bool, true, false, ◌&&◌, ◌||◌, nat_le, cond, Option, Some, None}
use Rattle.ver_text.specs.declared.kind.Kind.{Kind}
use Rattle.ver_text.specs.declared.kind.Kind.TheVariants.{Name, Module, Assign, CloseParen, Comma, Gap}
use Rattle.ver_text.specs.declared.kind.Rule.{Rule}
use Rattle.ver_text.specs.declared.kind.Rule.TheVariants.{Port, Item}
use Rattle.ver_text.specs.declared.token.Token.{Token}
use Rattle.ver_text.specs.declared.grammar.State.{State}
use Rattle.ver_text.specs.declared.part.Part.{Part}
use Rattle.ver_text.specs.declared.part.Cursor.{Cursor}
use Rattle.ver_text.specs.Kinds.{same_kind, is_word}
use Rattle.ver_text.specs.Grammar.{start, next_state, behind, next_rule}

-- all tokens of the construct were read
abbrev pub is_done : State → Bool
is_done s = nat_le (length (behind s.first)) s.done

-- whether parts of a text stand where this rule is due
abbrev pub begins_parts : Rule → Bool
begins_parts Port = true
begins_parts Item = true
begins_parts _ = false

-- whether the next token is the first of a part: behind `module` its name, else that of a port or of an item
abbrev pub opens : State → Bool
opens s = (same_kind s.first Module && (s.done == 0)) || (is_done s && begins_parts (next_rule s.first))

-- whether a part ends with the construct that begins with this token
abbrev pub closes : Kind → Bool
closes Comma = false
closes CloseParen = false
closes Assign = false
closes Name = false
closes Gap = false
closes _ = true

-- whether the token just read was the last of a part, or the one behind the module's name
abbrev pub ends : State → Bool
ends s = is_done s && closes s.first

-- A part has its first token, the first token of its last construct, and the last four names, numbers and literals so
-- far.
abbrev pub with_head : Bool → Part → Token → Part
with_head is_first p token = cond is_first (record p { head = token }) p

-- a part with a token as its last word, if it is one
abbrev pub with_word : Part → Token → Part
with_word p token =
    cond (is_word token.kind) (record p { fourth = p.third; third = p.second; second = p.last; last = token }) p

-- a part whose last construct begins with this token
abbrev pub with_form : Part → Kind → Part
with_form p form = record p { form = form }

-- what was read after one more token, and the state then; none where the token cannot come
abbrev pub moved_to : Cursor → Token → Option State → Cursor
moved_to c token None = c
moved_to c token (Some next) =
    record { state = next; part = with_form (with_word (with_head (opens c.state) c.part token) token) next.first }

-- after one more token
unfoldable pub moved : Cursor → Token → Cursor
moved c token = moved_to c token (next_state c.state token.kind)

-- stands where no token was read
abbrev pub no_token : Token
no_token = record { kind = Gap; start = 0; length = 0 }

-- before the first token
abbrev pub at_start : Cursor
at_start = record {
  state = start;
  part = record {
    head = no_token;
    form = Gap;
    fourth = no_token;
    third = no_token;
    second = no_token;
    last = no_token;
  };
}

-- the parts that end in these tokens, in order
abbrev pub parts : Cursor → List Token → List Part
parts c [] = []
parts c (token ∷ tokens) =
    cond (ends (moved c token).state) ((moved c token).part ∷ parts (moved c token) tokens)
    (parts (moved c token) tokens)
