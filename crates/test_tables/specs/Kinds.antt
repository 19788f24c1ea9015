-- What is said of each kind of fault, and its number.
use Rattle.std.specs.Prelude.{◌≡◌, codes, Some, None}
use Rattle.fault_place.specs.Fault.{message_of, number_of}
use Rattle.fault_place.specs.declared.fault.FaultKind.TheVariants.{NotUtf8, Unfinished, Stray, Unmatched, Depth, Open, Form, DynamicRequest, Unresolved, NotExported, BadManifest, BadTarget, EntryOnDemand, BadJson, BadType, RepeatedName, AssetClash, GroupName, TooLong, NotYet}

pub record KindsAreWorded : Type 0 where
  pub not_utf8 : message_of NotUtf8 (codes "q") ≡ codes "text is not UTF-8"
  pub unfinished : message_of Unfinished (codes "q") ≡ codes "unfinished token"
  pub stray : message_of Stray (codes "q") ≡ codes "stray character"
  pub unmatched : message_of Unmatched (codes "q") ≡ codes "unmatched bracket"
  pub depth : message_of Depth (codes "q") ≡ codes "brackets too deep"
  pub opens : message_of Open (codes "q") ≡ codes "text ends in a bracket"
  pub form : message_of Form (codes "q") ≡ codes "form is not supported"
  pub dynamic_request : message_of DynamicRequest (codes "q") ≡ codes "import() needs one text"
  pub unresolved : message_of Unresolved (codes "q") ≡ codes "cannot resolve \"q\""
  pub not_exported : message_of NotExported (codes "q") ≡ codes "\"q\" is not exported"
  pub bad_manifest : message_of BadManifest (codes "q") ≡ codes "bad manifest \"q\""
  pub bad_target : message_of BadTarget (codes "q") ≡ codes "bad exports in \"q\""
  pub entry_on_demand : message_of EntryOnDemand (codes "q") ≡ codes "chunk name \"q\" is an entry"
  pub bad_json : message_of BadJson (codes "q") ≡ codes "bad JSON"
  pub bad_type : message_of BadType (codes "q") ≡ codes "module type is not supported"
  pub repeated_name : message_of RepeatedName (codes "q") ≡ codes "name \"q\" is repeated"
  pub group_name : message_of GroupName (codes "q") ≡ codes "cache group name \"q\" is taken"
  pub too_long : message_of TooLong (codes "q") ≡ codes "module is too long"
  pub not_yet : message_of NotYet (codes "q") ≡ codes "form is not built yet"

pub record KindsAreNumbered : Type 0 where
  pub not_utf8 : number_of NotUtf8 ≡ 1
  pub unfinished : number_of Unfinished ≡ 2
  pub stray : number_of Stray ≡ 3
  pub unmatched : number_of Unmatched ≡ 4
  pub depth : number_of Depth ≡ 5
  pub opens : number_of Open ≡ 6
  pub form : number_of Form ≡ 7
  pub dynamic_request : number_of DynamicRequest ≡ 8
  pub unresolved : number_of Unresolved ≡ 9
  pub not_exported : number_of NotExported ≡ 10
  pub bad_manifest : number_of BadManifest ≡ 11
  pub bad_target : number_of BadTarget ≡ 12
  pub entry_on_demand : number_of EntryOnDemand ≡ 13
  pub bad_json : number_of BadJson ≡ 14
  pub bad_type : number_of BadType ≡ 15
  pub repeated_name : number_of RepeatedName ≡ 16
  pub clash : number_of (AssetClash 0 (Some 1)) ≡ 17
  pub stats_clash : number_of (AssetClash 12 None) ≡ 17
  pub group_name : number_of GroupName ≡ 18
  pub too_long : number_of TooLong ≡ 19
  pub not_yet : number_of NotYet ≡ 20
