-- The variables: what is read of them is what they stand for.
use Rattle.std.proofs.Common.{◌^◌, Bool, List, refl, ap, ◌∙◌}
use Rattle.std.specs.Prelude.{Some, All, option_and_then, option_map, codes}
use Rattle.std.specs.Str.{bytes_eq}
use Rattle.serde_json.specs.Data.{Data}
use Rattle.serde_json.specs.Find.{get}
use Rattle.query_model.specs.declared.parts.Name.{Name}
use Rattle.query_model.specs.declared.parts.Variable.{Variable}
use Rattle.query_model.specs.NameForm.{name_of}
use Rattle.query_model.specs.Rules.{IsVariable}
use Rattle.query_model.specs.Text.{name_bytes}
use Rattle.query_text.specs.Form.{where_true, all_differ, is_object_of, name_at, whole_at, variable_form, variables_form}
use Rattle.query_text.specs.Locations as location
use Rattle.query_text.specs.declared.location.Field.{Field}
use Rattle.query_text.specs.declared.location.Part.{Part}
use Rattle.query_text.specs.Walk.{walk_each, walk_variable, variable_keys, next_number}
use Rattle.query_text.proofs.Agrees.{Agrees, agrees_form, agrees_two}
use Rattle.query_text.proofs.ListForms.{then-then, then-where, agrees_list}
use Rattle.query_text.proofs.Differing.{differs, all_differ-push, all_differ_breaks}
use Rattle.query_text.proofs.NewNames.{name_of_two, agrees_new_name}
use Rattle.query_text.proofs.Lookups.{name_bytes-name_of}
use Rattle.query_text.proofs.Numbers.{IsUpTo, agrees_number, small_20}
use Rattle.query_text.proofs.Objects.{agrees_object}

-- they have the same name
same_variables : Variable → Variable → Bool
same_variables v w = bytes_eq (name_bytes v.name) (name_bytes w.name)

agrees_variable : (before : List Variable) (d : Data) → Agrees IsVariable (option_and_then (λ v. where_true (differs same_variables before v) (Some v)) (variable_form d)) (walk_variable before d)
unfolding same_variables variable_form walk_variable
agrees_variable before d =
    let i = next_number before in
    let unused = λ (v : Variable). where_true (differs same_variables before v) (Some v) in
    let made = λ (name : Name). option_and_then (λ from. option_map (λ to. record { name = name; from = from; to = to }) (whole_at (codes "to") d)) (whole_at (codes "from") d) in
    agrees_form IsVariable _ _ _
    (then-where unused (is_object_of variable_keys d) (option_and_then made (name_at (codes "name") d)) ∙ ap (where_true (is_object_of variable_keys d)) (then-then unused made (name_at (codes "name") d)))
    (agrees_object IsVariable variable_keys (location.item Part.Variables i) d _ _
    (agrees_new_name IsVariable (λ (v : Variable). name_bytes v.name) before (location.field Field.VariableName i) made _
    (λ text. name_of_two (λ from to. record { name = name_of text; from = from; to = to }) (λ (v : Variable). name_bytes v.name) text (λ from to. name_bytes-name_of text) (whole_at (codes "from") d) (whole_at (codes "to") d))
    (λ text. agrees_two (IsUpTo (2 ^ 20)) (IsUpTo (2 ^ 20)) IsVariable (λ from to. record { name = name_of text; from = from; to = to }) _ _ (λ from. whole_at (codes "to") d) _
    (agrees_number (2 ^ 20) (location.field Field.VariableFrom i) (get (codes "from") d) small_20) (λ from e. agrees_number (2 ^ 20) (location.field Field.VariableTo i) (get (codes "to") d) small_20) (λ from to v. (v.from, v.to))) (get (codes "name") d)))

-- variables of different names
pub agrees_variables : (ds : List Data) → Agrees (All IsVariable) (variables_form ds) (walk_each walk_variable ds)
unfolding same_variables variables_form
agrees_variables ds =
    agrees_list (all_differ same_variables) (differs same_variables) variable_form walk_variable IsVariable refl (all_differ-push same_variables) (all_differ_breaks same_variables) agrees_variable ds
