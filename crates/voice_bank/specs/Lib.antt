pub mod Banks
