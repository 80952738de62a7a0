-- The table of a client's open files.
use Rattle.std.specs.Prelude.{ℕ, ◌==◌, if◌then◌else◌, List, [], ◌∷◌, Option, None, Some}
use Rattle.jv_model.specs.promise.client.ModelClient.{file_of}
use Rattle.jv_client_handles.specs.declared.handle.Handle.{Handle}
use Rattle.jv_client_handles.specs.declared.views.View.{View}
use Rattle.jv_client_handles.specs.Views.{no_views, with_view, without_view}
use Rattle.jv_model.specs.promise.Lists.{numbers_of}
use Rattle.std.specs.Option.{option_map_or}

-- the inode of a handle's file, 0 where it isn't open
abbrev pub inode_of_handle : Option Handle → ℕ
inode_of_handle handle = option_map_or (λ (handle : Handle). handle.inode) handle 0

abbrev pub inode_here : List (Option Handle) → ℕ → ℕ
inode_here handles handle = inode_of_handle (file_of handles handle)

-- the inodes of all open files
abbrev pub held_here : List (Option Handle) → List ℕ
held_here handles = numbers_of (λ (handle : Handle). handle.inode) handles

-- a handle that was just opened, by the journal entry with this number
abbrev pub new_handle : ℕ → ℕ → Handle
new_handle inode entry = record { inode = inode; opened = entry; views = no_views }

-- a handle without views of a file that changed
abbrev pub unseen : ℕ → Option Handle → Option Handle
unseen inode None = None
unseen inode (Some handle) =
    if handle.inode == inode then Some (record handle { views = no_views }) else Some handle

-- a handle with a view of a window
abbrev pub seen_by : ℕ → View → Option Handle → Option Handle
seen_by window view None = None
seen_by window view (Some handle) =
    Some (record handle { views = with_view window view handle.views })

-- a handle without its view of a window
abbrev pub unseen_by : ℕ → Option Handle → Option Handle
unseen_by window None = None
unseen_by window (Some handle) = Some (record handle { views = without_view window handle.views })
