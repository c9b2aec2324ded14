-- What the contracts of this crate cite, beside the meaning in method.
pub mod RenewInputs
