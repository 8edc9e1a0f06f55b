-- An object of JSON, member by member.
use Rattle.std.specs.Prelude.{ℕ, List}
use Rattle.serde_json.specs.Data.{number, string, unsigned, Members, put}
use Rattle.serde_json.specs.View.{members_view}
use Rattle.many_jobs.specs.declared.json_object.Object.{Object}

-- the members that are put so far
abbrev pub members_of : Object → Members
members_of object = members_view object.members.entries

abbrev pub with_text : List ℕ → List ℕ → Members → Members
with_text key text members = put key (string text) members

abbrev pub with_number : List ℕ → ℕ → Members → Members
with_number key n members = put key (number (unsigned n)) members
