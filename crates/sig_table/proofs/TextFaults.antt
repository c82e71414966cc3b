-- What is wrong with a text that has to be a document of a table, in words, and beside the reader of a record.
use Rattle.std.proofs.Common.{◌≡◌, ℕ, List, Bool, true, false, is_none, is_some, Option, Some, None, option_map, Result}
use Rattle.std.proofs.Common.{Ok, Err, refl, sym, ◌∙◌}
use Rattle.std.specs.Option.{ok_or}
use Rattle.std.specs.Prelude.{IfOk, if◌then◌else◌}
use Rattle.std.specs.Str.{is_utf8}
use Rattle.sig_json.specs.Data.{Data}
use Rattle.sig_json.specs.Document.{document_of, without_float}
use Rattle.sig_json.specs.Read.{read}
use Rattle.sig_json.specs.Record.{record_in, record_of}
use Rattle.sig_json.specs.Written.{has_float}
use Rattle.sig_json.specs.declared.error.DocumentError.{DocumentError}
use Rattle.sig_json.specs.declared.error.DocumentError.TheVariants as document
use Rattle.sig_json.specs.declared.error.JsonError.TheVariants as json
use Rattle.sig_table.proofs.Faults.{Says, fault_none, fault_says}
use Rattle.sig_table.specs.DocumentFault.{IsFaultIn, IsMemberFaultOf, error_alone, error_of, fault_in, fault_in_document}
use Rattle.sig_table.specs.Fault.{fault_of}
use Rattle.sig_table.specs.First.{IsFirstFault}
use Rattle.sig_table.specs.Table.{Table, fits}
use Rattle.sig_table.specs.TableOf.{IsTableOf}
use Rattle.sig_table.specs.declared.fault.DocumentFault.{DocumentFault}
use Rattle.sig_table.specs.declared.fault.DocumentFault.TheVariants.{Member}
use Rattle.sig_table.specs.declared.fault.MemberFault.{MemberFault}

-- ---- in words

member_told : (t : Table) (d : Data) (found : Option MemberFault) → is_none found ≡ fits t d
    → Says (IsFirstFault t d) found → IsMemberFaultOf t d (option_map Member found)
member_told t d None none says = sym none
member_told t d (Some fault) none says = says

in_document : (t : Table) (read : Result Data DocumentError) → IsFaultIn t read (fault_in_document t read)
in_document t (Ok d) = member_told t d (fault_of t d) (fault_none t d) (fault_says t d)
in_document t (Err document.NotJson) = refl
in_document t (Err document.Float) = refl
in_document t (Err document.OutOfMemory) = tt

pub in_words : {E : Type 0} → (t : Table) (text : List ℕ) (result : Result (Option DocumentFault) E)
    → IfOk result (λ found. found ≡ fault_in t text) → IfOk result (IsFaultIn t (document_of text))
unfolding fault_in
in_words t text (Ok found) is = rw is (in_document t (document_of text))
in_words t text (Err e) is = tt

-- ---- beside the reader of a record of which it is the table

-- no text is out of memory
float_not_memory : (tree : Data) (b : Bool) → (if b then Err document.Float else Ok tree) ≡ Err document.OutOfMemory → ⊥
float_not_memory tree true e = cc
float_not_memory tree false e = cc

tree_not_memory : (found : Option Data) → without_float found ≡ Err document.OutOfMemory → ⊥
tree_not_memory None e = cc
tree_not_memory (Some tree) e = float_not_memory tree (has_float tree) e

text_not_memory : (found : Option Data) (b : Bool)
    → (if b then without_float found else Err document.NotJson) ≡ Err document.OutOfMemory → ⊥
text_not_memory found true e = tree_not_memory found e
text_not_memory found false e = cc

not_memory : (text : List ℕ) → ¬ (document_of text ≡ Err document.OutOfMemory)
unfolding document_of
not_memory text e = text_not_memory (read text) (is_utf8 text) e

module _ {A : Type 0} (kind : Data → Option A) (t : Table) (is : IsTableOf kind t) where
  beside_read : (found : Option MemberFault) (read : Option A) → is_none found ≡ is_some read
      → error_of (option_map Member found) ≡ error_alone (ok_or read json.Member)
  beside_read None None none = cc
  beside_read None (Some x) none = refl
  beside_read (Some fault) None none = refl
  beside_read (Some fault) (Some x) none = cc

  beside_document : (read : Result Data DocumentError) → ¬ (read ≡ Err document.OutOfMemory)
      → error_of (fault_in_document t read) ≡ error_alone (record_of kind read)
  beside_document (Ok d) read = beside_read (fault_of t d) (kind d) (fault_none t d ∙ is d)
  beside_document (Err document.NotJson) read = refl
  beside_document (Err document.Float) read = refl
  beside_document (Err document.OutOfMemory) read = absurd (read refl)

  beside_record : (text : List ℕ) → error_of (fault_in t text) ≡ error_alone (record_in kind text)
  unfolding fault_in record_in
  beside_record text = beside_document (document_of text) (not_memory text)

  pub beside_reader : {E : Type 0} → (text : List ℕ) (result : Result (Option DocumentFault) E)
      → IfOk result (λ found. found ≡ fault_in t text)
      → IfOk result (λ found. error_of found ≡ error_alone (record_in kind text))
  beside_reader text (Ok found) same = rw same (beside_record text)
  beside_reader text (Err e) same = tt
