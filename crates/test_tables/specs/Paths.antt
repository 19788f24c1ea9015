-- Paths that texts name, from the root and from a folder, and paths taken apart.
use Rattle.std.specs.Prelude.{◌≡◌, ℕ, true, false, List, [], ◌∷◌, ◌++◌, codes, Ok, Err}
use Rattle.path_text.specs.Child.{child_of, is_segment}
use Rattle.path_text.specs.Path.{is_normal, join_of, normal_of, parent_of}
use Rattle.path_text.specs.declared.path_end.PathEnd.TheVariants.{Above, Absolute, BadChar}

-- the letters e with an acute accent and u with two dots, and a slash between them
abbrev pub accents : List ℕ
accents = 0xc3 ∷ 0xa9 ∷ 47 ∷ 0xc3 ∷ 0xbc ∷ []

pub record TextsAreNormal : Type 0 where
  pub up : normal_of (codes "./a/../b") ≡ Ok (codes "b")
  pub here : normal_of (codes "a//b/./c") ≡ Ok (codes "a/b/c")
  pub twice_up : normal_of (codes "a/b/../../c") ≡ Ok (codes "c")
  pub nothing : normal_of [] ≡ Ok []
  pub dot : normal_of (codes ".") ≡ Ok []
  pub to_root : normal_of (codes "a/..") ≡ Ok []
  pub dots : normal_of (codes "...") ≡ Ok (codes "...")
  pub slash_behind : normal_of (codes "a/") ≡ Ok (codes "a")
  pub not_ascii : normal_of accents ≡ Ok accents

pub record TextsAreRefused : Type 0 where
  pub above : normal_of (codes "../a") ≡ Err Above
  pub later_above : normal_of (codes "a/../..") ≡ Err Above
  pub absolute : normal_of (codes "/a") ≡ Err Absolute
  pub absolute_above : normal_of (codes "/..") ≡ Err Absolute
  pub new_line : normal_of (codes "a" ++ 10 ∷ []) ≡ Err BadChar
  pub absolute_delete : normal_of (codes "/a" ++ 127 ∷ []) ≡ Err BadChar
  pub above_tab : normal_of (codes "../" ++ 9 ∷ []) ≡ Err BadChar

pub record TextsAreJoined : Type 0 where
  pub near : join_of (codes "src") (codes "./x.js") ≡ Ok (codes "src/x.js")
  pub beside : join_of (codes "src/a") (codes "../b/x.js") ≡ Ok (codes "src/b/x.js")
  pub from_root : join_of [] (codes "./x.js") ≡ Ok (codes "x.js")
  pub above : join_of (codes "src") (codes "../../x") ≡ Err Above
  pub absolute : join_of (codes "src") (codes "/x") ≡ Err Absolute

pub record PathsAreTakenApart : Type 0 where
  pub folder : parent_of (codes "src/a/x.js") ≡ codes "src/a"
  pub root : parent_of (codes "x.js") ≡ []
  pub entry : child_of (codes "src") (codes "x.js") ≡ codes "src/x.js"
  pub root_entry : child_of [] (codes "src") ≡ codes "src"
  pub normal : is_normal (codes "a/b") ≡ true
  pub nothing : is_normal [] ≡ false
  pub slash_behind : is_normal (codes "a/") ≡ false
  pub here : is_normal (codes "./a") ≡ false
  pub up : is_normal (codes "a/../b") ≡ false
  pub control : is_normal (codes "a" ++ 31 ∷ []) ≡ false
  pub segment : is_segment (codes "x.js") ≡ true
  pub two_segments : is_segment (codes "a/b") ≡ false
