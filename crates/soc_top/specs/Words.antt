-- The words of a run.
use Rattle.std.specs.Prelude.{ℕ, ◌≡◌, List, [], ◌∷◌, Bool, true, not, ◌&&◌, ◌==◌, cond, Option, Some, None}
use Rattle.std.specs.Prelude.{codes, map, String, string_bytes}
use Rattle.std.specs.Str.{bytes_eq}
use Rattle.std.specs.Option.{option_map, option_or}
use Rattle.std.specs.declared.alloc.Global.{Global}

-- a file name is a word that doesn't begin with `-`
abbrev pub is_file_name : List ℕ → Bool
is_file_name [] = true
is_file_name (c ∷ cs) = not (c == 45)

-- the file of a command's words, where they are the command and a file name
abbrev pub file_of : List ℕ → List (List ℕ) → Option (List ℕ)
file_of command [] = None
file_of command (word ∷ []) = None
file_of command (word ∷ name ∷ []) = cond (bytes_eq word command && is_file_name name) (Some name) None
file_of command (word ∷ name ∷ more ∷ words) = None

-- the design file of the words `map <design>`
abbrev pub design_named : List (List ℕ) → Option (List ℕ)
design_named words = file_of (codes "map") words

-- the text of the words `read <text>`
abbrev pub text_named : List (List ℕ) → Option (List ℕ)
text_named words = file_of (codes "read") words

-- two files: a design that is loaded, and a text that is saved
pub record BuildFiles : Type 0 where
  pub design : List ℕ
  pub text : List ℕ

-- these two files
abbrev pub build_files : List ℕ → List ℕ → BuildFiles
build_files design text = record { design = design; text = text }

-- the files of a command's words, where they are the command and two file names
abbrev pub files_of : List ℕ → List (List ℕ) → Option BuildFiles
files_of command [] = None
files_of command (word ∷ []) = None
files_of command (word ∷ design ∷ []) = None
files_of command (word ∷ design ∷ text ∷ []) =
    cond (bytes_eq word command && is_file_name design && is_file_name text) (Some (build_files design text)) None
files_of command (word ∷ design ∷ text ∷ more ∷ words) = None

-- the files of the words `verilog <design> <text>`
abbrev pub build_named : List (List ℕ) → Option BuildFiles
build_named words = files_of (codes "verilog") words

-- three files: a design and a stimulus that are loaded, and a text that is saved
pub record SimFiles : Type 0 where
  pub design : List ℕ
  pub stimulus : List ℕ
  pub text : List ℕ

-- these three files
abbrev pub sim_files : List ℕ → List ℕ → List ℕ → SimFiles
sim_files design stimulus text = record { design = design; stimulus = stimulus; text = text }

-- the files of a command's words, where they are the command and three file names
abbrev pub three_of : List ℕ → List (List ℕ) → Option SimFiles
three_of command [] = None
three_of command (word ∷ []) = None
three_of command (word ∷ design ∷ []) = None
three_of command (word ∷ design ∷ stimulus ∷ []) = None
three_of command (word ∷ design ∷ stimulus ∷ text ∷ []) =
    cond (bytes_eq word command && is_file_name design && is_file_name stimulus && is_file_name text)
    (Some (sim_files design stimulus text)) None
three_of command (word ∷ design ∷ stimulus ∷ text ∷ more ∷ words) = None

-- the files of the words `sim <design> <stimulus> <text>`
abbrev pub sim_named : List (List ℕ) → Option SimFiles
sim_named words = three_of (codes "sim") words

-- the file that the words give for saving, if there is one
abbrev pub saved_named : List (List ℕ) → Option (List ℕ)
saved_named words =
    option_or (option_map (λ names. names.text) (build_named words))
    (option_map (λ names. names.text) (sim_named words))

-- the words have none of the stated forms
pub record HaveNoForm (words : List (List ℕ)) : Type 0 where
  pub design : design_named words ≡ None
  pub text : text_named words ≡ None
  pub files : build_named words ≡ None
  pub three : sim_named words ≡ None

-- the bytes of some words
abbrev pub words_of : List (String Global) → List (List ℕ)
words_of = map string_bytes
