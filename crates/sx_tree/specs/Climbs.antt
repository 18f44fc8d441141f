-- What stands below a directory, and the path of a node: the way up from a node to the root.
use Rattle.std.specs.Prelude.{ℕ, zero, suc, ◌==◌, ◌&&◌, ◌||◌, Bool, false, not, if◌then◌else◌, List, [], ◌++◌}
use Rattle.std.specs.Prelude.{codes}
use Rattle.std.specs.Prelude.{length, filter}
use Rattle.std.specs.Prelude.{Option, Some, None}
use Rattle.std.specs.Map.{keys_of}
use Rattle.sx_tree.specs.Tree.{Nodes, Slot, slot_at}

-- what holds of the directory of what stands in a slot, if something stands there
abbrev pub above : Option Slot → (ℕ → Bool) → Bool
above None test = false
above (Some s) test = test s.node.parent

-- fewer steps up than a number lead from a node to a directory
abbrev pub climbs : Nodes → ℕ → ℕ → ℕ → Bool
climbs t zero dir id = false
climbs t (suc n) dir id = (id == dir) || above (slot_at t id) (climbs t n dir)

-- a node is a directory's own or stands below it: some steps up lead there, and no way up has more nodes than there are
abbrev pub is_under : Nodes → ℕ → ℕ → Bool
is_under t dir id = climbs t (length t.slots) dir id

-- a node stands below a directory
abbrev pub lies_below : Nodes → ℕ → ℕ → Bool
lies_below t dir id = is_under t dir id && not (id == dir)

-- all nodes below a directory, in order of id
abbrev pub all_below : Nodes → ℕ → List ℕ
all_below t dir = filter (lies_below t dir) (keys_of t.slots)

-- a path with one more name: a slash stands between the two, and none behind the root's path, which is empty
abbrev pub longer_path : List ℕ → List ℕ → List ℕ
longer_path path name = if length path == 0 then name else path ++ codes "/" ++ name

-- the path of what stands in a slot, by the paths of directories; the root has no name
abbrev pub path_in : Option Slot → (ℕ → List ℕ) → List ℕ
path_in None paths = []
path_in (Some s) paths = named s.name where
  named : Option (List ℕ) → List ℕ
  named None = []
  named (Some name) = longer_path (paths s.node.parent) name

-- the path of a node to which fewer steps than a number lead from the root
abbrev pub path_up : Nodes → ℕ → ℕ → List ℕ
path_up t zero id = []
path_up t (suc n) id = path_in (slot_at t id) (path_up t n)

-- the path of a node: the kept names on the way to it from the root, with a slash between each two
abbrev pub path_of : Nodes → ℕ → List ℕ
path_of t id = path_up t (length t.slots) id
